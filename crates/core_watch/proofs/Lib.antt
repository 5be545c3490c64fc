pub mod Lists
pub mod Pieces
pub mod Sounds
pub mod Idles
pub mod Turns
pub mod Steps
