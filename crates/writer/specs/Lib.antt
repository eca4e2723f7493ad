pub mod Results
pub mod WriteSheet
pub mod Pinned
