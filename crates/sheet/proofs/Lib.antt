pub mod Drawing
pub mod Pinned
pub mod Reading
pub mod Running
pub mod Soundness
