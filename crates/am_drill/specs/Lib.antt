pub mod Drill
pub mod Summary
pub mod Brief
pub mod Ends
