pub mod Rreads
pub mod Laws
pub mod Calls
pub mod PortLaws
