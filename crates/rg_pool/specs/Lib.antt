pub mod ProofPieces
pub mod Inner
