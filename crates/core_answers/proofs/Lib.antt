pub mod Possibly
pub mod Indexed
pub mod Answered
