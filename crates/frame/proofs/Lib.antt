pub mod Steps
pub mod Headers
pub mod Questions
