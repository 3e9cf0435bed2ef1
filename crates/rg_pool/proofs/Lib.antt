pub mod DealSteps
pub mod EmptySteps
pub mod VerdictSteps
pub mod PieceSteps
