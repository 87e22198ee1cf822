-- Laws that the proofs share.
mod Rising
mod Starts
pub mod Turned
