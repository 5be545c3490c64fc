pub mod Lives
pub mod Finding
pub mod WindowFiles
pub mod BookState
pub mod Laws
pub mod Shown
pub mod Table
