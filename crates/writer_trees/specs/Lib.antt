pub mod Files
pub mod Seen
pub mod Unbuilt
