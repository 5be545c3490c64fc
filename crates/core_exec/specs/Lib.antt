pub mod Clicks
pub mod Executing
pub mod Looking
pub mod Acting
