-- Laws that the proofs share, and those that other crates use.
pub mod Cuts
mod Order
mod Adding
