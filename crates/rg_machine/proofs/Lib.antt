pub mod Lookups
pub mod Steps
pub mod Replayed
pub mod EventRuns
