pub mod Agrees
pub mod Writers
pub mod Laws
