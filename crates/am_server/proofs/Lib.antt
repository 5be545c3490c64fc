pub mod Putting
pub mod Replying
pub mod Sounds
pub mod Completing
pub mod Closing
