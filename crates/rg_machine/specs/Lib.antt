pub mod Machine
pub mod Kept
pub mod Replay
pub mod EventRuns
