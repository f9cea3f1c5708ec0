pub mod Made
pub mod NotAccepted
pub mod Texts
pub mod WriterLemmas
