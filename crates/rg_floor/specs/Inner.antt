-- What only contracts of private functions, ghost fields and proofs speak of: no public contract reaches it.
pub mod Counts
pub mod Kept
-- What only contracts of private functions and proofs speak of: no public contract reaches it.
pub mod Walking
