pub mod Derivations
pub mod Faults
pub mod Names
pub mod Reading
pub mod Inner
