pub mod Inner
pub mod Sample
