mod States
mod Mentions
pub mod Loops
mod Conjunctions
mod Defined
mod Typed
pub mod Left
pub mod Blocks
pub mod Lifts
pub mod ShadowRuns
