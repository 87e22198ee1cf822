-- The definitions that the contracts cite.
pub mod Judged
pub mod Sizes
