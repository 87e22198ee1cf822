pub mod Table
pub mod Opening
