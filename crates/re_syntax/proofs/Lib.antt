pub mod Written
pub mod Sound
pub mod Steps
pub mod Complete
pub mod Live
pub mod Answered
pub mod Listing
