pub mod Marks
pub mod Passes
pub mod Entries
