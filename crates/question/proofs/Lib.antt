pub mod Bases
mod Answers
pub mod Posed
