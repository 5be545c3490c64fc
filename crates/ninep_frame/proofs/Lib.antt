pub mod Fits
pub mod Joins
pub mod Longest
pub mod PrefixFree
pub mod Reading
pub mod Sizes
