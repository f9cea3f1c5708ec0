pub mod Laws
pub mod Parsed
pub mod Programs
pub mod Statements
