pub mod Putting
pub mod Room
