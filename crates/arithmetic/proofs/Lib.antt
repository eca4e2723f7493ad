pub mod Halves
pub mod Limits
