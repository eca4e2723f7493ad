pub mod Decimal
pub mod Inner
pub mod Pinned
