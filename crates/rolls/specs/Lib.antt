pub mod Batch
pub mod Inner
pub mod Plan
