mod ByByte
mod ByLetter
mod Examples
mod Pieces
pub mod Places
mod Turns
