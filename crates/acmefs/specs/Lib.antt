pub mod Statuses
pub mod Ends
pub mod Traces
pub mod Packs
pub mod Does
pub mod Top
