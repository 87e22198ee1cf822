pub mod Opening
pub mod Prepared
