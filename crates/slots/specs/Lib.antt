pub mod Slots
pub mod Pair
pub mod Reached
