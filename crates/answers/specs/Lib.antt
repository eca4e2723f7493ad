pub mod Outcome
pub mod Pinned
pub mod Results
pub mod Supplied
