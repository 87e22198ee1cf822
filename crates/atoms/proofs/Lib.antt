pub mod Atoms
pub mod Tokens
