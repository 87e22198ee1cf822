-- Laws that the proofs share, and those that other crates use.
pub mod Rows
pub mod Places
pub mod Raising
pub mod Bars
pub mod Listed
pub mod Standing
pub mod Marks
pub mod Starts
