pub mod Access
pub mod Limits
pub mod Modes
pub mod Trees
pub mod Walks
