pub mod Lines
pub mod Reports
pub mod Moves
pub mod Walks
