pub mod ReadSheet
pub mod Results
pub mod RunSheet
pub mod Sheet
pub mod Pinned
