pub mod Tree
pub mod Limits
pub mod Kinds
pub mod Texts
pub mod Pieces
pub mod Answer
pub mod Read
pub mod Laws
