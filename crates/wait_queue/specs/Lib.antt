pub mod Carry
pub mod Openings
pub mod Reads
pub mod Held
pub mod Waiting
pub mod WaitState
pub mod Laws
pub mod Limits
