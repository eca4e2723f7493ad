pub mod Deciding
pub mod Pinned
pub mod Supplies
