pub mod Selectors
pub mod Text
