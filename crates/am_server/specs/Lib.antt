pub mod Replied
pub mod Sound
pub mod Ends
pub mod Complete
pub mod Served
pub mod Texts
pub mod Putting
