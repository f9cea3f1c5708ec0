pub mod Demands
pub mod Grammar
pub mod Laws
pub mod Seen
pub mod Spelling
pub mod Text
pub mod Token
pub mod Types
