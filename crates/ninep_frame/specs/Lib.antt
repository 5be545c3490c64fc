pub mod Directories
pub mod Laws
pub mod Layout
pub mod Places
pub mod Records
