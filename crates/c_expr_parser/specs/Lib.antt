pub mod Classes
pub mod Depth
pub mod Expressions
pub mod Types
