pub mod LongDivision
pub mod Radix
pub mod WayBack
