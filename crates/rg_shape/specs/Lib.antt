pub mod Inner
pub mod Shape
