pub mod Sides
pub mod Writes
pub mod Operations
