pub mod Cut
pub mod WalkReport
pub mod WorkedOut
