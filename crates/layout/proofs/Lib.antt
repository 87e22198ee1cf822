pub mod Room
pub mod Grown
pub mod Turns
pub mod Cells
pub mod Filling
pub mod Aspects
pub mod Laying
pub mod Closed
