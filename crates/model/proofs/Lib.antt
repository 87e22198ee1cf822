pub mod Bench
pub mod Truth
