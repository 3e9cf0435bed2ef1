pub mod Names
pub mod Typed
pub mod Words
