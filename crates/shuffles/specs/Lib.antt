pub mod Shuffle
