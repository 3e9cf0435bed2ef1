-- When a condition is true of two states, in words.
use Rattle.std.specs.Prelude.{◌≡◌, ℕ, true, cond, ◌⊎◌, ◌↔◌, List, [], ◌∷◌, length}
use Rattle.rg_tree.specs.Trees.{Proposition}
use Rattle.rg_tree.specs.Meaning.{holds}
use Rattle.rg_tree.specs.ConditionTrees.{ConditionTree, before, reached, condition_holds}

-- each of these formulas holds of s and t
abbrev pub AllTrue : List Proposition → List ℕ → List ℕ → Type 0
AllTrue [] s t = Unit {0}
AllTrue (f ∷ fs) s t = (holds f s t ≡ true) × AllTrue fs s t

-- the goal holds of s and u, or of u alone, or the step from s to u may change nothing and does
abbrev pub IsGoalMet : ConditionTree → List ℕ → List ℕ → Type 0
IsGoalMet c s u = (holds c.goal (cond c.alone u s) u ≡ true) ⊎ ((c.or_no_change ≡ true) × (s ≡ u))

-- where all hypotheses hold, the goal is met
abbrev pub IsTrueAt : ConditionTree → List ℕ → List ℕ → Type 0
IsTrueAt c s t = AllTrue c.hypotheses s (before c.second s t) → IsGoalMet c s (reached c.second s t)

-- the test of a condition at two states of the same words says whether it is true of them
abbrev pub TestsSayTruth : Type 0
TestsSayTruth = (c : ConditionTree) (s t : List ℕ) → length s ≡ length t → (condition_holds c s t ≡ true) ↔ IsTrueAt c s t
