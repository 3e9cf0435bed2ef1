pub mod Found
pub mod Typed
