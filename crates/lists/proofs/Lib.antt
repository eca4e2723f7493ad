pub mod Cutting
pub mod Listing
pub mod OneList
