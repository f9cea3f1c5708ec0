mod Examples
pub mod Writers
