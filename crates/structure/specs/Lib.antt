pub mod Layout
pub mod Added
pub mod Laid
pub mod Marks
