pub mod Listed
pub mod Live
pub mod Named
pub mod Spelled
