-- What hypotheses and a goal say of two states.
use Rattle.std.specs.Prelude.{◌≡◌, ℕ, ◌<◌, Bool, true, false, not, ◌&&◌, ◌||◌, cond, nat_eq, List, [], ◌∷◌, length, map, slice_index, slice_set}
use Rattle.rg_words.specs.Layout.{Word, widths_of}
use Rattle.rg_words.specs.States.{IsPair}
use Rattle.rg_tree.specs.declared.condition.Assign.{Assign}
use Rattle.rg_tree.specs.declared.condition.Second.{Second}
use Rattle.rg_tree.specs.declared.condition.Second.TheVariants.{Same, Free, After}
use Rattle.rg_tree.specs.Trees.{Proposition, Assignment}
use Rattle.rg_tree.specs.Meaning.{value_of, holds}
use Rattle.rg_tree.specs.View.{expression}
use Rattle.rg_tree.specs.Fits.{ExpressionFits, FormulaFits}
use Rattle.rg_tree.specs.Typing.{HasWidth, IsTyped}
use Rattle.rg_tree.specs.Primes.{speaks_of_two}

-- the second state: the first one, any one, or the first one after assignments
pub data SecondState : Type 0 where
  same : SecondState
  free : SecondState
  after : List Assignment → SecondState

-- a condition, without where it lies in memory
pub record ConditionTree : Type 0 where
  pub words : List Word
  pub hypotheses : List Proposition
  pub second : SecondState
  pub goal : Proposition
  pub alone : Bool
  pub or_no_change : Bool

-- a condition of these parts
abbrev pub condition_tree_of : List Word → List Proposition → SecondState → Proposition → Bool → Bool → ConditionTree
condition_tree_of words hypotheses second goal alone or_no_change = record {
  words = words;
  hypotheses = hypotheses;
  second = second;
  goal = goal;
  alone = alone;
  or_no_change = or_no_change;
}

-- an assignment of the code
abbrev pub assignment : Assign → Assignment
assignment a = record { target = a.word; value = expression a.value }

-- a second state of the code
abbrev pub second_state : Second → SecondState
second_state Same = same
second_state Free = free
second_state (After as_) = after (map assignment as_.items)

-- the state after assignments, in order
abbrev pub assigned : List Assignment → List ℕ → List ℕ
assigned [] s = s
assigned (a ∷ as_) s = assigned as_ (slice_set s a.target (value_of a.value s s))

-- the second state that hypotheses read: there is one only where it is free
abbrev pub before : SecondState → List ℕ → List ℕ → List ℕ
before free s t = t
before _ s t = s

-- the second state that the goal reads
abbrev pub reached : SecondState → List ℕ → List ℕ → List ℕ
reached same s t = s
reached free s t = t
reached (after as_) s t = assigned as_ s

-- it is so so far, and these formulas hold
abbrev pub all_hold : List Proposition → List ℕ → List ℕ → Bool → Bool
all_hold [] s t so_far = so_far
all_hold (f ∷ fs) s t so_far = all_hold fs s t (so_far && holds f s t)

-- it is so so far, and the values are the same, one by one
abbrev pub are_same : List ℕ → List ℕ → Bool → Bool
are_same (a ∷ as_) (b ∷ bs) so_far = are_same as_ bs (so_far && nat_eq a b)
are_same _ _ so_far = so_far

-- the goal holds at s and u, or nothing changed
abbrev pub goal_holds : ConditionTree → List ℕ → List ℕ → Bool
goal_holds c s u = cond c.or_no_change (holds c.goal (cond c.alone u s) u || are_same u s true) (holds c.goal (cond c.alone u s) u)

-- the goal holds where the hypotheses do
abbrev pub condition_holds : ConditionTree → List ℕ → List ℕ → Bool
condition_holds c s t = not (all_hold c.hypotheses s (before c.second s t) true && not (goal_holds c s (reached c.second s t)))

-- true for every two states that agree on the fixed words
abbrev pub ConditionHolds : ConditionTree → Type 0
ConditionHolds c = (s t : List ℕ) → IsPair c.words s t → condition_holds c s t ≡ true

-- a formula alone: no hypotheses, and a second state of its own where it has a primed word
abbrev pub shown : List Word → Proposition → ConditionTree
shown words f = condition_tree_of words [] (cond (speaks_of_two f) free same) f false false

-- their words are there, and their widths and counts are within the limits
abbrev pub AllFit : List Proposition → ℕ → Type 0
AllFit [] n = Unit {0}
AllFit (f ∷ fs) n = FormulaFits f n × AllFit fs n

-- so are their targets
abbrev pub AssignmentsFit : List Assignment → ℕ → Type 0
AssignmentsFit [] n = Unit {0}
AssignmentsFit (a ∷ as_) n = (a.target < n) × ExpressionFits a.value n × AssignmentsFit as_ n

-- the assignments that make the second state do, if there are any
abbrev pub SecondFits : SecondState → ℕ → Type 0
SecondFits (after as_) n = AssignmentsFit as_ n
SecondFits _ n = Unit {0}

-- all trees of a condition speak of its words
pub record ConditionFits (c : ConditionTree) : Type 0 where
  pub hypotheses : AllFit c.hypotheses (length c.words)
  pub second : SecondFits c.second (length c.words)
  pub goal : FormulaFits c.goal (length c.words)

-- their comparisons are of one width each
abbrev pub AllTyped : List ℕ → List Proposition → Type 0
AllTyped widths [] = Unit {0}
AllTyped widths (f ∷ fs) = IsTyped widths f × AllTyped widths fs

-- each value has its target's width
abbrev pub AssignmentsTyped : List ℕ → List Assignment → Type 0
AssignmentsTyped widths [] = Unit {0}
AssignmentsTyped widths (a ∷ as_) = (a.target < length widths) × HasWidth widths a.value (slice_index widths a.target) × AssignmentsTyped widths as_

-- in the assignments that make the second state, if there are any
abbrev pub SecondTyped : List ℕ → SecondState → Type 0
SecondTyped widths (after as_) = AssignmentsTyped widths as_
SecondTyped widths _ = Unit {0}

-- all trees of a condition are typed over its words
pub record ConditionTyped (c : ConditionTree) : Type 0 where
  pub hypotheses : AllTyped (widths_of c.words) c.hypotheses
  pub second : SecondTyped (widths_of c.words) c.second
  pub goal : IsTyped (widths_of c.words) c.goal
