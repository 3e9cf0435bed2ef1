pub mod Strengthened
