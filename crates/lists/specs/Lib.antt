pub mod Inner
pub mod List
