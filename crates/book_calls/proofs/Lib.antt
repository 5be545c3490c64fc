mod Steps
mod Items
mod Openings
mod Drops
pub mod Takes
pub mod Entries
pub mod Rests
pub mod Trails
pub mod PortSteps
pub mod Runs
pub mod PortTrails
