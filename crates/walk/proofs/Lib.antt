pub mod Digits
pub mod Pairs
pub mod Fronts
pub mod Refusals
pub mod Carried
pub mod Looks
pub mod Walks
