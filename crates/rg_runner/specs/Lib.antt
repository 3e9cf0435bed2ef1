pub mod Faults
pub mod Inner
pub use Rattle.rg_floor.specs.Moves
pub use Rattle.rg_runner.specs.Faults
pub mod Running
