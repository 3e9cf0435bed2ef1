-- Where a text may be cut between lines.
use Rattle.std.specs.Prelude.{◌≡◌, ◌⊎◌, ℕ, List, [], ◌∷◌, ◌++◌}
use Rattle.std.specs.Str.Lines.{lines}

-- bytes end with a line: they are none, or a line feed stands last
abbrev pub EndsLine : List ℕ → Type 0
EndsLine bytes = (bytes ≡ []) ⊎ ((front : List ℕ) × (bytes ≡ front ++ 10 ∷ []))

-- a text is one line, with its end, and the rest
pub record IsFrontLine (text line rest : List ℕ) : Type 0 where
  pub front : List ℕ
  pub is : text ≡ front ++ rest
  pub ends : (rest ≡ []) ⊎ EndsLine front
  pub one : lines front ≡ line ∷ []
