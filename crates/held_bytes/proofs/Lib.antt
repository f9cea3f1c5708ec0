pub mod ToldLemmas
pub mod HeldRest
