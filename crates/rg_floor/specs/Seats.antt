-- What contracts see of a seat.
use Rattle.std.specs.Prelude.{ℕ}

-- the part of the seat, from 1, and how many steps it made by it
pub record SeatView : Type 0 where
  pub part : ℕ
  pub steps : ℕ
