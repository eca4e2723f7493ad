pub mod Area
pub mod Pinned
