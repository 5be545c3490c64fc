pub mod Asking
pub mod Serving
pub mod Closing
pub mod Answering
pub mod Sound
