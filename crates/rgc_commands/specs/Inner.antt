-- What only contracts of private functions and proofs speak of: no public contract reaches it.
pub mod Answers
pub mod Expansion
pub mod Named
pub mod Stops
pub mod Wordings
pub mod Reported
pub mod Meant
