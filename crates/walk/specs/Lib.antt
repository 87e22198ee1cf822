pub mod Pairs
pub mod Walked
