pub mod Limits
pub mod Stores
