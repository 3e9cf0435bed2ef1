pub mod Chains
pub mod Rest
