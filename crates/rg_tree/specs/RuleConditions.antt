-- The conditions of the rules: what each asks, as a condition, and what it says of states.
use Rattle.std.specs.Prelude.{◌≡◌, Bool, true, false, List, [], ◌∷◌}
use Rattle.rg_words.specs.Layout.{Word}
use Rattle.rg_words.specs.States.{IsState, IsPair}
use Rattle.rg_tree.specs.Trees.{Proposition, Assignment}
use Rattle.rg_tree.specs.Meaning.{holds}
use Rattle.rg_tree.specs.ConditionTrees.{ConditionTree, condition_tree_of, free, after, assigned, ConditionHolds}
use Rattle.rg_tree.specs.Traces.{State, holds_at, Inside}

-- what one use of a rule asks, in the form of the rule
pub data RuleCondition : Type 0 where
  -- where all of these hold, the goal holds after the assignments
  reaches : List Proposition → List Assignment → Proposition → RuleCondition
  -- where all of these hold, the step that the assignments make is inside the goal
  makes : List Proposition → List Assignment → Proposition → RuleCondition
  -- where p holds, it holds after a step that R allows
  keeps : Proposition → Proposition → RuleCondition
  -- a step that the first allows is inside the second
  allows : Proposition → Proposition → RuleCondition

-- as hypotheses and a goal
abbrev pub as_condition : List Word → RuleCondition → ConditionTree
as_condition words (reaches given act goal) = condition_tree_of words given (after act) goal true false
as_condition words (makes given act goal) = condition_tree_of words given (after act) goal false true
as_condition words (keeps p R) = condition_tree_of words (p ∷ R ∷ []) free p true false
as_condition words (allows R S) = condition_tree_of words (R ∷ []) free S false true

-- each of these formulas holds in the state
abbrev pub AllHold : List Proposition → State → Type 0
AllHold [] s = Unit {0}
AllHold (f ∷ fs) s = (holds_at f s ≡ true) × AllHold fs s

-- p is stable under R: p s and R s t give p t
abbrev pub IsStable : List Word → (State → Bool) → (State → State → Bool) → Type 0
IsStable words p R = (s t : State) → IsPair words s t → p s ≡ true → R s t ≡ true → p t ≡ true

-- a step that R allows is inside S
abbrev pub StepsInside : List Word → (State → State → Bool) → (State → State → Bool) → Type 0
StepsInside words R S = (s t : State) → IsPair words s t → R s t ≡ true → Inside S s t

-- what a condition says of all states of these words
abbrev pub IsMet : List Word → RuleCondition → Type 0
IsMet words (reaches given act goal) = (s : State) → IsState words s → AllHold given s → holds_at goal (assigned act s) ≡ true
IsMet words (makes given act goal) = (s : State) → IsState words s → IsPair words s (assigned act s) → AllHold given s → Inside (holds goal) s (assigned act s)
IsMet words (keeps p R) = IsStable words (holds_at p) (holds R)
IsMet words (allows R S) = StepsInside words (holds R) (holds S)

-- each of these conditions is met
abbrev pub AllMet : List Word → List RuleCondition → Type 0
AllMet words [] = Unit {0}
AllMet words (o ∷ os) = IsMet words o × AllMet words os

-- each of these conditions is true
abbrev pub AllConditionsHold : List ConditionTree → Type 0
AllConditionsHold [] = Unit {0}
AllConditionsHold (c ∷ cs) = ConditionHolds c × AllConditionsHold cs
