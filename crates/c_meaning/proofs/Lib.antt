pub mod Backward
pub mod Below
pub mod Blocks
pub mod Calls
pub mod CheckedSum
pub mod Comes
mod Examples
pub mod Frames
pub mod Gives
pub mod Grows
pub mod Later
pub mod Memory
pub mod Numbers
pub mod Reached
pub mod Stays
pub mod Todo
pub mod Touched
