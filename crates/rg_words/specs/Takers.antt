-- Writers over memory.
use Rattle.std.specs.Prelude.{ℕ, List}

-- the bytes that it has taken, the most that it takes in a call, and how many calls failed
pub record Taken : Type 0 where
  pub bytes : List ℕ
  pub most : ℕ
  pub failures : ℕ
