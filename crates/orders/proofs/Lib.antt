pub mod Inverse
pub mod Marking
pub mod OneOrder
