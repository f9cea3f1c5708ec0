pub mod CellSteps
pub mod CellTrees
pub mod Symmetric
