pub mod Declared
