pub mod Checking
pub mod Cutting
pub mod Filling
pub mod OneBatch
pub mod Searching
pub mod Stepping
pub mod Supplying
pub mod Unfolding
