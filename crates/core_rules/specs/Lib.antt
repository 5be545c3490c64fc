pub mod NewNames
pub mod Adding
pub mod Writing
pub mod RulesLaws
pub mod Messages
pub mod Sending
pub mod SendLaws
