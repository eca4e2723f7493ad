pub mod Behind
pub mod Inner
