pub mod OneShuffle
pub mod Placing
pub mod Reach
pub mod Shuffling
