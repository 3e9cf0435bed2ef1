pub mod Erased
pub mod Faults
pub mod Shadows
pub mod Products
pub mod Inner
