-- What only contracts of private functions and proofs speak of: no public contract reaches it.
pub mod Building
pub mod BuildingLines
pub mod DraftLines
pub mod Drafts
