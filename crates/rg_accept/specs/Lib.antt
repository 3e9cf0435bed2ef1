pub mod Accepted
pub mod Standing
pub mod Pieces
pub mod Stages
pub mod Names
