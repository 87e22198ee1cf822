-- Laws that the proofs share; those of one entry serve other crates too.
pub mod Telling
mod Filling
