-- What only contracts of private functions and proofs speak of: no public contract reaches it.
pub mod Blocks
pub mod Formulas
