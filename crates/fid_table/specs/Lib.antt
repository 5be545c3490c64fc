pub mod Fids
pub mod Tables
pub mod Undo
pub mod Laws
pub mod Held
