pub mod Machining
pub mod Running
pub mod Statuses
