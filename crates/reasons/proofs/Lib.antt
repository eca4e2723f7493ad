pub mod Fates
pub mod Finals
pub mod Firsts
pub mod Pinned
pub mod Slots
pub mod Telling
