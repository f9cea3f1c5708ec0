pub mod Main
pub mod Read
