-- What a condition builds.
use Rattle.std.specs.Prelude.{Bool, true, false, cond, List, slice_set}
use Rattle.std.specs.List.{zip}
use Rattle.rg_gates.specs.declared.Lit.{Lit}
use Rattle.rg_gates.specs.declared.Lit.TheVariants.{True}
use Rattle.rg_gates.specs.And.{and_of}
use Rattle.rg_words.specs.declared.operators.Comparison.TheVariants.{Equal}
use Rattle.rg_tree.specs.Trees.{Proposition, Assignment}
use Rattle.rg_tree.specs.ConditionTrees.{ConditionTree, SecondState, same, free, after}
use Rattle.rg_rows.specs.Build.{Build, ◌>>=◌, give, fold_of}
use Rattle.rg_rows.specs.Literals.{or_of, implies_of}
use Rattle.rg_bits.specs.Formulas.{row_of, literal_of, compared_of}
use Rattle.rg_rows.specs.Inputs.{first_rows, before_rows}

-- one hypothesis more
unfoldable pub hypothesis_of : List (List Lit) → List (List Lit) → Proposition → Lit → Build Lit
hypothesis_of s t f held = do
  l ← literal_of f s t
  and_of held l

-- an assignment replaces its word's row
unfoldable pub assign_of : Assignment → List (List Lit) → Build (List (List Lit))
assign_of a rows = do
  r ← row_of a.value rows rows
  give (slice_set rows a.target r)

-- the rows of the second state's words: these, changed by the assignments where the condition has some
unfoldable pub reached_rows : SecondState → List (List Lit) → Build (List (List Lit))
reached_rows (after as_) t = fold_of assign_of as_ t
reached_rows same t = give t
reached_rows free t = give t

-- whether one word more is after as before
unfoldable pub same_word_of : List Lit × List Lit → Lit → Build Lit
same_word_of words so_far = do
  e ← compared_of Equal words.0 words.1
  and_of so_far e

-- the goal, or where a step that changes nothing will do, the goal or that no word changed
unfoldable pub goal_of : Bool → Lit → List (List Lit) → List (List Lit) → Build Lit
goal_of false g u s = give g
goal_of true g u s = do
  unchanged ← fold_of same_word_of (zip u s) True
  or_of g unchanged

-- the goal wherever a literal holds, over rows before and after
unfoldable pub conclusion_of : ConditionTree → List (List Lit) → List (List Lit) → Lit → Build Lit
conclusion_of c s u h = do
  g ← literal_of c.goal (cond c.alone u s) u
  q ← goal_of c.or_no_change g u s
  implies_of h q

-- the goal wherever the hypotheses hold, over rows for the two states
unfoldable pub implication_of : ConditionTree → List (List Lit) → List (List Lit) → Build Lit
implication_of c s t = do
  h ← fold_of (hypothesis_of s t) c.hypotheses True
  u ← reached_rows c.second t
  conclusion_of c s u h

-- over the input bits
abbrev pub condition_of : ConditionTree → Build Lit
condition_of c = implication_of c (first_rows 0 c.words) (before_rows c.second c.words)
