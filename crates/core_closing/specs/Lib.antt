pub mod Closing
pub mod Views
pub mod Asks
