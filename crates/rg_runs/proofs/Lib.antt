pub mod Typed
pub mod Verdicts
pub mod Words
