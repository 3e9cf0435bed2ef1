-- What only contracts of private functions, ghost fields and proofs speak of: no public contract reaches it.
pub mod Marks
pub mod Memo
pub mod Status
