-- How many accesses to atomic words a step makes in a state.
use Rattle.std.specs.Prelude.{ℕ, ◌+◌, cond, List, [], ◌∷◌, Option, Some, None, slice_set, if◌then◌else◌}
use Rattle.rg_tree.specs.Trees.{Expression, Proposition, Assignment, number, word, next_word, inverse, binary, shifted, choice, truth, negation, connected, compared}
use Rattle.rg_tree.specs.Meaning.{value_of, holds}
use Rattle.rg_tree.specs.Traces.{State}
use Rattle.rg_c_plan.specs.Changes.{change_of}
use Rattle.rg_c_plan.specs.Ways.{kind_at, is_atomic}
use Rattle.rg_c_plan.specs.Once.{stores}
use Rattle.rg_c_plan.specs.declared.kind.Kind.{Kind}

abbrev mutual
  -- reads of atomic words in the evaluation of an expression and of a formula: of a choice the test is evaluated, and one side
  pub reads_made : List Kind → State → Expression → ℕ
  reads_made kinds s (number w n) = 0
  reads_made kinds s (word k) = if is_atomic (kind_at kinds k) then 1 else 0
  reads_made kinds s (next_word k) = if is_atomic (kind_at kinds k) then 1 else 0
  reads_made kinds s (inverse w a) = reads_made kinds s a
  reads_made kinds s (binary o w a b) = reads_made kinds s a + reads_made kinds s b
  reads_made kinds s (shifted d w a n) = reads_made kinds s a
  reads_made kinds s (choice f a b) = tests_made kinds s f + cond (holds f s s) (reads_made kinds s a) (reads_made kinds s b)

  pub tests_made : List Kind → State → Proposition → ℕ
  tests_made kinds s (truth b) = 0
  tests_made kinds s (negation f) = tests_made kinds s f
  tests_made kinds s (connected c f g) = tests_made kinds s f + tests_made kinds s g
  tests_made kinds s (compared c a b) = reads_made kinds s a + reads_made kinds s b

-- of a test, and where it holds of what comes after it
abbrev pub tested_made : List Kind → State → Option Proposition → ℕ → ℕ
tested_made kinds s None after = after
tested_made kinds s (Some f) after = tests_made kinds s f + cond (holds f s s) after 0

-- accesses of an assignment: where its test holds it reads its value, and writes its word
abbrev pub change_made : List Kind → State → Assignment → ℕ
change_made kinds s a = tested_made kinds s (change_of a).test (reads_made kinds s (change_of a).value + (if stores kinds a then 1 else 0))

-- of assignments, one after another
abbrev pub changes_made : List Kind → State → List Assignment → ℕ
changes_made kinds s [] = 0
changes_made kinds s (a ∷ act) = change_made kinds s a + changes_made kinds (slice_set s a.target (value_of a.value s s)) act

-- of a step, which assigns where its guard holds
abbrev pub step_made : List Kind → State → Option Proposition → List Assignment → ℕ
step_made kinds s guard act = tested_made kinds s guard (changes_made kinds s act)
