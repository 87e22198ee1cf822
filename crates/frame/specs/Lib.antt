pub mod State
pub mod Header
