pub mod Begun
pub mod Grammar
pub mod Limits
pub mod OneReading
pub mod ProgramLimits
pub mod Texts
pub mod Written
