pub mod Answers
pub mod Executed
pub mod Messages
pub mod Reading
pub mod Translated
pub mod Words
