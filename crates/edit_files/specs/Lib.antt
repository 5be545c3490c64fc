pub mod Across
pub mod Faults
pub mod Names
pub mod Letters
pub mod Command
pub mod Files
pub mod Answer
pub mod Laws
