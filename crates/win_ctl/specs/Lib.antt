pub mod Limits
pub mod Messages
pub mod Tags
pub mod Columns
pub mod Directory
