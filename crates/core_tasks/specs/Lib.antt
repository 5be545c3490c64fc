pub mod Controls
pub mod Plumbing
pub mod Tasks
