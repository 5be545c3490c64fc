pub mod Gates
pub mod Names
pub mod Told
pub mod Puts
