pub mod Lines
pub mod Log
pub mod Jobs
pub mod Reads
pub mod Watching
pub mod Calls
pub mod Laws
