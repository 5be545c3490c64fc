pub mod Runes
pub mod Edges
pub mod Steps
pub mod Laws
