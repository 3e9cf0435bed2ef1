pub mod Frames
pub mod Steps
pub mod Inner
