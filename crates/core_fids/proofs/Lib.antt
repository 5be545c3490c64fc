pub mod Answers
pub mod Courses
pub mod Entries
pub mod Parted
pub mod Named
pub mod Openings
pub mod Scanned
