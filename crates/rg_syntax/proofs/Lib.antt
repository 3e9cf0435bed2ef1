pub mod Clauses
pub mod Rows
pub mod Sizes
