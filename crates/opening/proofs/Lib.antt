pub mod Logs
mod Foreseen
pub mod Openings
pub mod Room
