pub mod Loads
pub mod Questions
