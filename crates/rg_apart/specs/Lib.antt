pub mod Lifted
pub mod Conditions
pub mod Laws
pub mod Inner
