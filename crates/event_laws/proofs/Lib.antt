mod Walks
mod Ends
mod Steps
mod Journals
pub mod Stages
pub mod Entries
pub mod PortJournals
