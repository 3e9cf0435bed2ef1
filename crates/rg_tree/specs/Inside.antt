-- Steps inside a formula on two states.
use Rattle.std.specs.Prelude.{◌≡◌, ℕ, Bool, true, ◌||◌, ◌⊎◌, List}
use Rattle.std.specs.Str.{bytes_eq}
use Rattle.rg_tree.specs.Trees.{Proposition}
use Rattle.rg_tree.specs.Meaning.{holds}

-- a step from s to t is inside a formula where that holds of s and t, or s is t
abbrev pub IsInside : Proposition → List ℕ → List ℕ → Type 0
IsInside f s t = (holds f s t ≡ true) ⊎ (s ≡ t)

-- the test of it
abbrev pub is_inside : Proposition → List ℕ → List ℕ → Bool
is_inside f s t = holds f s t || bytes_eq s t
