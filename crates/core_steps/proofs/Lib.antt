pub mod Saids
pub mod Moved
pub mod Joins
pub mod Idling
pub mod Applied
pub mod Orders
pub mod Rows
