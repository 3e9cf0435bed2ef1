pub mod Parallel
pub mod Typed
pub mod Joined
pub mod Sound
pub mod Counts
