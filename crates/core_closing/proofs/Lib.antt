pub mod Places
mod Viewed
