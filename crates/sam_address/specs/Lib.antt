pub mod Search
pub mod Lines
pub mod Value
pub mod Laws
