pub mod Letters
pub mod Limits
pub mod Spelling
pub mod Back
