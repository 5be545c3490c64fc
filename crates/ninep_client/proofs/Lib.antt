pub mod Tags
pub mod Kept
pub mod Streams
pub mod Alone
pub mod Books
