pub mod Rest
pub mod Pushed
