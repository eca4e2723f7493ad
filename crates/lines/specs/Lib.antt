pub mod Pinned
pub mod Text
