pub mod Trees
pub mod Blocks
pub mod FreshTrees
pub mod LastStructs
pub mod Slots
pub mod Spread
