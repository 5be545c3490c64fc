pub mod Told
pub mod Noted
pub mod Scenes
pub mod Changing
pub mod SceneLaws
pub mod FileNotes
pub mod NewItems
pub mod Sizes
