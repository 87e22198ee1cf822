pub mod Parts
pub mod Slots
pub mod Clocks
pub mod Openings
pub mod Messages
