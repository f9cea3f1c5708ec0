pub mod Build
pub mod Calls
pub mod Following
pub mod Jumps
pub mod Memory
pub mod Names
pub mod Operators
pub mod Rows
