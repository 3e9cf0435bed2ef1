-- Answers that are put at the places of their numbers.
use Rattle.std.specs.Prelude.{◌≡◌, ◌⊎◌, ℕ, Option, Some, None, List, length, slice_index_or, Contains}

-- at each place of the new list stands what stood there before, or an answer with that number
pub record Fills {X : Type 0} (answers : List (ℕ × X)) (old new : List (Option X)) : Type 0 where
  pub size : length new ≡ length old
  pub each : (i : ℕ) → (slice_index_or new i None ≡ slice_index_or old i None) ⊎ ((x : X) × Contains answers (i, x) × (slice_index_or new i None ≡ Some x))
