pub mod PortList
pub mod Inboxes
pub mod PortsState
pub mod Undo
pub mod Shown
pub mod Laws
pub mod Limits
