pub mod Operations
pub mod Code
pub mod BlockView
pub mod Legal
pub mod CodeTrees
pub mod Laws
pub mod Lawful
pub mod Inner
