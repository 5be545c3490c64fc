pub mod Memory
pub mod Outside
pub mod Seen
pub mod Sockets
pub mod Stops
pub mod Streams
pub mod Written
