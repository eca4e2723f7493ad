pub mod Pinned
pub mod Printing
