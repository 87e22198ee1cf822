-- Laws of written and compared bytes, for this crate and those above.
pub mod Parts
pub mod Puts
pub mod Cuts
