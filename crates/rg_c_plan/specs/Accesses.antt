-- The steps of a program, and who reads and who writes a word.
use Rattle.std.specs.Prelude.{ℕ, Bool, false, not, ◌&&◌, ◌||◌, nat_eq, List, [], ◌∷◌, ◌++◌, length, map, get_or, Option, Some, None}
use Rattle.std.specs.List.{list_any, range_with_len}
use Rattle.std.specs.Option.{option_map_or}
use Rattle.rg_words.specs.Layout.{Word, fixed_of}
use Rattle.rg_words.specs.declared.operators.Connective.TheVariants.{And}
use Rattle.rg_words.specs.declared.operators.Comparison.TheVariants.{Equal}
use Rattle.rg_tree.specs.Trees.{Expression, Proposition, Assignment, number, word, next_word, inverse, binary, shifted, choice, truth, negation, connected, compared}
use Rattle.rg_tree.specs.Statements.{Statement, skip, assign, await, sequence, branch, loop, Items, one, more, PartTree, ProgramTree}
use Rattle.rg_c_plan.specs.declared.access.Access.{Access}
use Rattle.rg_c_plan.specs.Changes.{ChangeTree, moving, change_of}

-- a step of a part: its line, what it waits for or tests, if anything, and what it assigns, in order, but for assignments of words to themselves
pub record StepTree : Type 0 where
  pub line : ℕ
  pub guard : Option Proposition
  pub act : List Assignment

-- the steps of a statement, in the order of the text: a skip, an assignment, an await with its assignments, the test of an if or of a while
abbrev mutual
  pub steps : Statement → List StepTree
  steps (skip row) = record { line = row; guard = None; act = [] } ∷ []
  steps (assign row a) = record { line = row; guard = None; act = moving (a ∷ []) } ∷ []
  steps (await row b act) = record { line = row; guard = Some b; act = moving act } ∷ []
  steps (sequence row s items) = steps s ++ steps_of_items items
  steps (branch row b s t) = record { line = row; guard = Some b; act = [] } ∷ (steps s ++ steps t)
  steps (loop row b s) = record { line = row; guard = Some b; act = [] } ∷ steps s

  pub steps_of_items : Items → List StepTree
  steps_of_items (one s) = steps s
  steps_of_items (more s items) = steps s ++ steps_of_items items

-- the steps of all parts
abbrev pub steps_of_parts : List PartTree → List StepTree
steps_of_parts [] = []
steps_of_parts (p ∷ ps) = steps p.body ++ steps_of_parts ps

-- whether a word, primed or not, stands in a tree
abbrev mutual
  pub stands_in : ℕ → Expression → Bool
  stands_in k (number w n) = false
  stands_in k (word j) = nat_eq k j
  stands_in k (next_word j) = nat_eq k j
  stands_in k (inverse w a) = stands_in k a
  stands_in k (binary o w a b) = stands_in k a || stands_in k b
  stands_in k (shifted d w a n) = stands_in k a
  stands_in k (choice f a b) = stands_in_formula k f || (stands_in k a || stands_in k b)

  pub stands_in_formula : ℕ → Proposition → Bool
  stands_in_formula k (truth b) = false
  stands_in_formula k (negation f) = stands_in_formula k f
  stands_in_formula k (connected c f g) = stands_in_formula k f || stands_in_formula k g
  stands_in_formula k (compared c a b) = stands_in k a || stands_in k b

-- a word stands in a guard or test, if there is one
abbrev pub stands_in_test : ℕ → Option Proposition → Bool
stands_in_test k test = option_map_or (λ f. stands_in_formula k f) test false

-- it is read by a change
abbrev pub is_read_by : ℕ → ChangeTree → Bool
is_read_by k c = stands_in_test k c.test || stands_in k c.value

-- a step with this guard or test, if it has one, and these assignments reads a word: it stands in the guard, or is read by a change
abbrev pub reads : ℕ → Option Proposition → List Assignment → Bool
reads k guard act = stands_in_test k guard || list_any (λ a. is_read_by k (change_of a)) act

-- it writes a word: a target
abbrev pub writes : ℕ → List Assignment → Bool
writes k act = list_any (λ a. nat_eq k a.target) act

-- it touches a word: it reads or writes it
abbrev pub touches : ℕ → Option Proposition → List Assignment → Bool
touches k guard act = reads k guard act || writes k act

-- how a part reads and writes a word: some step does
abbrev pub part_access : ℕ → List StepTree → Access
part_access k ss = record { reads = list_any (λ s. reads k s.guard s.act) ss; writes = list_any (λ s. writes k s.act) ss }

-- the conjuncts of a formula, in order
abbrev pub conjuncts : Proposition → List Proposition
conjuncts (connected And f g) = conjuncts f ++ conjuncts g
conjuncts f = f ∷ []

-- the formula says that the word stays what it is: x' = x, or x = x'
abbrev pub keeps : ℕ → Proposition → Bool
keeps k (compared Equal (next_word i) (word j)) = nat_eq k i && nat_eq k j
keeps k (compared Equal (word i) (next_word j)) = nat_eq k i && nat_eq k j
keeps k f = false

-- the word is fixed: no step changes it
abbrev pub is_fixed : List Word → ℕ → Bool
is_fixed words k = get_or (fixed_of words) k false

-- how the world outside reads and writes a word: it writes each that isn't fixed and that no conjunct of the rely keeps, and reads each of which another conjunct speaks
abbrev pub world_access : ℕ → List Word → Proposition → Access
world_access k words rely = record {
  reads = list_any (λ f. stands_in_formula k f && not (keeps k f)) (conjuncts rely);
  writes = not (is_fixed words k) && not (list_any (keeps k) (conjuncts rely));
}

-- how each party reads and writes a word: first the world outside, then the parts in their order
abbrev pub accesses : ProgramTree → ℕ → List Access
accesses p k = world_access k p.words p.spec.rely ∷ map (λ (part : PartTree). part_access k (steps part.body)) p.parts

-- the party reads or writes the word
abbrev pub is_touched : Access → Bool
is_touched a = a.reads || a.writes

-- two parties meet at a word: both touch it, and one of them writes it
abbrev pub meet : Access → Access → Bool
meet a b = (is_touched a && b.writes) || (a.writes && is_touched b)

-- some two of these parties meet
abbrev pub some_meet : List Access → Bool
some_meet [] = false
some_meet (a ∷ as_) = list_any (meet a) as_ || some_meet as_

-- the places of a list, from 0
abbrev pub places : {A : Type 0} → List A → List ℕ
places xs = range_with_len 0 (length xs)
