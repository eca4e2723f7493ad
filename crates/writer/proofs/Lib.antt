pub mod Laid
pub mod Pinned
pub mod Writing
