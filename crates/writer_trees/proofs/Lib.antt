pub mod TreeNodes
pub mod Firsts
