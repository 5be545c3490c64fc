pub mod Asking
pub mod Hearing
pub mod Calls
pub mod Alone
pub mod Laws
