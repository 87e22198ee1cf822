pub mod Formed
pub mod Rows
