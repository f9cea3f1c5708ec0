mod Adding
pub mod Finding
