pub mod Code
pub mod Falls
pub mod Sizes
pub mod Tree
pub mod View
