pub mod Relations
pub mod Cells
pub mod Laws
