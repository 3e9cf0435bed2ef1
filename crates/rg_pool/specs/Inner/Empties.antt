-- Where empty clauses stand among the given clauses and the lines of a section.
use Rattle.std.specs.Prelude.{◌≡◌, ◌⊎◌, ℕ, ◌+◌, ◌<◌, ℤ, List, [], length, slice_index_or}
use Rattle.rg_hints.specs.Lines.{Section, hint_line_at}

-- an empty clause stands at this place: a given one, or, after all of those, that of a line
abbrev pub IsEmptyAt : List (List ℤ) → Section → ℕ → Type 0
IsEmptyAt given s place =
    ((place < length given) × (slice_index_or given place [] ≡ []))
    ⊎ ((k : ℕ) × (place ≡ length given + k) × (k < length s.lines) × ((hint_line_at s k).literals ≡ []))

-- 1 where an empty clause stands at this place, and 0 elsewhere
abbrev pub IsMarkOf : List (List ℤ) → Section → ℕ → ℕ → Type 0
IsMarkOf given s place mark = ((mark ≡ 1) × IsEmptyAt given s place) ⊎ ((mark ≡ 0) × (IsEmptyAt given s place → ⊥))
