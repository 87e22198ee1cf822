pub mod Stands
pub mod Worked
