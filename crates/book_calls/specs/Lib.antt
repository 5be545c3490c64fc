pub mod Calls
pub mod Laws
pub mod PortCalls
pub mod PortLaws
