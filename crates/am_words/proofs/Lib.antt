pub mod Numbers
pub mod Taken
pub mod Forms
pub mod Given
pub mod Rows
pub mod Known
