pub mod Laws
pub mod Parts
pub mod Built
pub mod Atoms
pub mod Ranges
pub mod Arrivals
