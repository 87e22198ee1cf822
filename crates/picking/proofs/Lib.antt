-- Laws that the proofs share; those of a station's events and of rows serve other crates too.
pub mod Forms
pub mod Reading
mod Picking
