pub mod Knowing
pub mod Journals
pub mod Desks
pub mod Replies
pub mod Ranged
pub mod Staying
pub mod Serving
