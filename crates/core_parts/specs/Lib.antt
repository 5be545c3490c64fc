pub mod Limits
pub mod Kinds
pub mod Connections
pub mod States
pub mod Parts
pub mod Doing
