mod Among
mod Lifted
mod Typed
mod TypedVisits
mod Visited
mod Meeting
mod Erased
mod Kept
