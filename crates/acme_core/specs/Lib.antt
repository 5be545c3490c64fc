pub mod Run
pub mod Laws
pub mod Kept
pub mod Addresses
pub mod Views
pub mod Asks
