pub mod Binding
pub mod Connection
pub mod Serving
pub mod Sides
pub mod Slots
pub mod Working
