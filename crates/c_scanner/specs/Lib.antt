pub mod Cut
pub mod Fronts
pub mod Head
pub mod Marks
pub mod Scan
pub mod Seen
pub mod Words
