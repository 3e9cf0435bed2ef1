-- What stands in front of a line: its first field, and the number that it writes.
use Rattle.std.specs.Prelude.{◌≡◌, ◌==◌, ◌⊎◌, ℕ, ◌<◌, not, Bool, Option, None, option_map, List, [], ◌∷◌, take, drop}
use Rattle.std.specs.List.{prefix_len}
use Rattle.rg_words.specs.declared.limits.TheConstants.{MOST_HINT_NUMBER}
use Rattle.rg_hint_lines.specs.Text.{is_blank}

-- a line feed
abbrev pub is_line_feed : ℕ → Bool
is_line_feed b = b == 10

-- the bytes before the first blank
abbrev pub front_field : List ℕ → List ℕ
front_field bytes = take (prefix_len (λ b. not (is_blank b)) bytes) bytes

-- the bytes from the first blank on
abbrev pub after_field : List ℕ → List ℕ
after_field bytes = drop (prefix_len (λ b. not (is_blank b)) bytes) bytes

-- a number that stands for another: it is the same, or both are out of range
abbrev pub IsUpToMost : ℕ → ℕ → Type 0
IsUpToMost n m = (n ≡ m) ⊎ ((MOST_HINT_NUMBER < n) × (MOST_HINT_NUMBER < m))

-- what the first field is read as, and the fields after it
abbrev pub first_read : {A : Type 0} → (List ℕ → Option A) → List (List ℕ) → Option (A × List (List ℕ))
first_read read [] = None
first_read read (field ∷ fields) = option_map (λ x. (x, fields)) (read field)
