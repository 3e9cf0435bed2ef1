pub mod Names
pub mod Parallel
