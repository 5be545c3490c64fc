pub mod Ranges
pub mod Data
