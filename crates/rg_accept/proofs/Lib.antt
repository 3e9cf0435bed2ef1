pub mod Asked
pub mod Accepting
pub mod Texts
pub mod InPieces
pub mod Blocks
pub mod Covering
pub mod Standing
