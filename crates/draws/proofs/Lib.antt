pub mod OneSample
pub mod Planning
pub mod Rolled
pub mod Sampling
