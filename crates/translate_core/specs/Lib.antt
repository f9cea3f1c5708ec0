pub mod Accepted
pub mod Laws
pub mod Reading
pub mod Refused
pub mod Translated
pub mod Written
