pub mod Blanks
pub mod Commands
pub mod Names
pub mod Paths
pub mod Expansion
