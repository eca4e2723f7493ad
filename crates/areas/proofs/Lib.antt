pub mod Bytes
pub mod Laying
pub mod Pinned
pub mod Putting
pub mod Reading
pub mod Values
