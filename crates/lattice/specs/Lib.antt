pub mod Signed
pub mod OfStation
pub mod Starts
pub mod Chains
pub mod Ascending
pub mod Due
