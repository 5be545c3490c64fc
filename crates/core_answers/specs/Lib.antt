pub mod Texts
pub mod Erring
pub mod Addressing
pub mod Reading
pub mod Writing
pub mod Reactions
pub mod Laws
