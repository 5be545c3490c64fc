pub mod Routing
pub mod Delivering
pub mod Plumbing
pub mod Looking
