pub mod Nodes
pub mod Uses
pub mod Raises
pub mod Outlines
pub mod OfTyped
pub mod Functions
pub mod Shape
pub mod Laws
