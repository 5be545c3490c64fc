pub mod Named
pub mod Added
pub mod Cutting
pub mod Rest
