pub mod View
pub mod Decides
pub mod Inner
