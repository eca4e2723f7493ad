pub mod Fate
pub mod Happened
pub mod Pinned
pub mod Results
pub mod Why
