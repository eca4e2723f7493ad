pub mod Pinned
pub mod Spelling
