pub mod Innermost
pub mod Found
