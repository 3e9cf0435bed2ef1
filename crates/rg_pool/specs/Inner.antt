-- What only contracts of private functions and proofs speak of: no public contract reaches it.
pub mod Deals
pub mod Empties
pub mod PieceAnswers
pub mod Verdicts
pub mod PieceSections
