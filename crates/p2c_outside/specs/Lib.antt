pub mod Counts
pub mod Files
pub mod Pieces
pub mod Told
