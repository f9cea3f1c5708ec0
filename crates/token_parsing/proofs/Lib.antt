pub mod Fair
pub mod Tracked
