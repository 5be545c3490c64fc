pub mod Windows
pub mod Moving
pub mod Linked
pub mod Openings
