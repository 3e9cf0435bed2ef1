pub mod Changes
pub mod Short
