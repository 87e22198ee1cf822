pub mod Signed
pub mod Contract
