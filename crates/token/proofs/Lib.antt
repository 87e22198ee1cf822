pub mod Atoms
pub mod Tokens
pub mod Normals
pub mod Operands
