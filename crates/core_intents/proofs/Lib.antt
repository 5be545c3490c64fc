pub mod Kinded
pub mod Typed
pub mod Tagged
pub mod Meant
