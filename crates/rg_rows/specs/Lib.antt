pub mod Build
pub mod Literals
pub mod Rows
pub mod Inputs
pub mod Within
