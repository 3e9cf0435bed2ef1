pub mod Readiness
pub mod Made
pub mod Histories
pub mod Meant
pub mod OneMore
pub mod Together
pub mod EachMove
mod Walking
