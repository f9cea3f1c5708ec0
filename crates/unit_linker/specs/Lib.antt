pub mod Graph
pub mod Walk
pub mod Search
pub mod Files
pub mod Faults
pub mod Slots
pub mod Linked
pub mod Laws
