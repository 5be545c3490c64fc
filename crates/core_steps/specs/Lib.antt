pub mod Replies
pub mod PortReads
pub mod WatchReads
pub mod Order
pub mod Stages
pub mod Heard
pub mod Ready
