pub mod Facing
