pub mod Values
pub mod App
pub mod Line
pub mod Named
pub mod Inner
