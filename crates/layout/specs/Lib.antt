pub mod Rows
pub mod Messages
pub mod StoredValid
