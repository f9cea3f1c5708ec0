pub mod Codes
pub mod Tree
pub mod expressions
pub mod statements
pub mod types
