pub mod Ends
pub mod Formulas
pub mod Measured
pub mod Judged
