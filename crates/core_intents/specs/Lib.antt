pub mod Enabled
pub mod Typing
pub mod Origins
pub mod Spots
pub mod Intents
pub mod Doings
pub mod Users
