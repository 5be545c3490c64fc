pub mod Joined
pub mod Taking
pub mod Spelled
pub mod Same
