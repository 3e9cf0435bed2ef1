pub mod Symbols
pub mod Inner
pub mod Formulas
pub mod Scripts
