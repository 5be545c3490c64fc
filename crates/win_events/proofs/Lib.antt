pub mod BackLemmas
pub mod Digits
