-- Why words can't be erased from a program.
use Rattle.std.specs.Prelude.{ℕ, Bool, true, false, not, ◌&&◌, nat_eq, nat_le, ◌||◌, List, [], ◌∷◌, length, Option, Some, None, is_none, option_and_then, option_map, if◌then◌else◌}
use Rattle.rg_words.specs.Layout.{Word}
use Rattle.rg_words.specs.declared.operators.Comparison.TheVariants.{Equal}
use Rattle.rg_tree.specs.Trees.{Expression, Proposition, Assignment, word, next_word, compared}
use Rattle.rg_tree.specs.Statements.{Statement, skip, assign, await, sequence, branch, loop, Items, one, more, PartTree, ProgramTree}
use Rattle.rg_erase.specs.Erased.{staying, is_erased, flagged, first_of, mentions, speaks_of, conjuncts, first_free}
use Rattle.rg_erase.specs.declared.fault.Fault.{Fault}
use Rattle.rg_erase.specs.declared.fault.Fault.TheVariants.{NothingLeft, Pre, Rely, Read}

-- what may define words, in a formula of one state or of two: which words it may define, whether they are primed there, and the words
-- that a value may not mention, unprimed and primed
pub record Defining : Type 0 where
  pub words : List Bool
  pub primed : Bool
  pub excluded : List Bool
  pub excluded_next : List Bool

-- the word that an expression is, where it may be defined
abbrev pub defined_by : Defining → Expression → Option ℕ
defined_by d (word k) = if d.primed then None else flagged d.words k
defined_by d (next_word k) = if d.primed then flagged d.words k else None
defined_by d e = None

-- the word that one side of an equation is, where it may be defined and the other side may be its value
abbrev pub target_as : Defining → Expression → Expression → Option ℕ
target_as d side value = if is_none (mentions d.excluded d.excluded_next value) then defined_by d side else None

-- the word to which a formula gives a value: it is the equation of the two
abbrev pub target_of : Defining → Proposition → Option ℕ
target_of d (compared Equal a b) = first_of (target_as d a b) (target_as d b a)
target_of d f = None

-- the number is in the list
abbrev pub is_in : ℕ → List ℕ → Bool
is_in k [] = false
is_in k (x ∷ xs) = nat_eq k x || is_in k xs

-- the fault of a formula that speaks of an erased word, the last one, and that defines the first one, if any: that has to be a word that isn't defined before
abbrev pub definition_fault : Option ℕ → List ℕ → ℕ → Option ℕ
definition_fault None before k = Some k
definition_fault (Some target) before k = if is_in target before then Some target else None

-- the words that are defined before, and the one that is now
abbrev pub defined_after : Option ℕ → List ℕ → List ℕ
defined_after None before = before
defined_after (Some target) before = target ∷ before

-- the first erased word of which these formulas say something else than its value, once, where these words are defined before
abbrev pub undefined : List Bool → Defining → List ℕ → List Proposition → Option ℕ
undefined erased d before [] = None
undefined erased d before (f ∷ fs) =
    first_of (option_and_then (λ k. definition_fault (target_of d f) before k) (speaks_of erased erased f)) (undefined erased d (defined_after (target_of d f) before) fs)

-- of the erased words those that aren't fixed: a flag for each of these words
abbrev pub erased_free : List Bool → List Word → List Bool
erased_free erased [] = []
erased_free [] (w ∷ ws) = false ∷ erased_free [] ws
erased_free (e ∷ es) (w ∷ ws) = (e && not w.fixed) ∷ erased_free es ws

-- in the pre: a = E, where E mentions no erased word
abbrev pub in_pre : List Bool → Defining
in_pre erased = record { words = erased; primed = false; excluded = erased; excluded_next = erased }

-- in the rely: a' = E, where E mentions no erased word with a prime, and a isn't fixed
abbrev pub in_rely : List Bool → List Word → Defining
in_rely erased words = record { words = erased_free erased words; primed = true; excluded = []; excluded_next = erased }

-- the first erased word in values that are assigned to words that stay
abbrev pub values_mention : List Bool → List Assignment → Option ℕ
values_mention erased [] = None
values_mention erased (a ∷ act) = first_of (if is_erased erased a.target then None else mentions erased erased a.value) (values_mention erased act)

-- the first place in a statement that reads an erased word: a test, a guard, or a value that is assigned to a word that stays
abbrev mutual
  pub read_in : List Bool → Statement → Option Fault
  read_in erased (skip row) = None
  read_in erased (assign row a) = option_map (Read row) (values_mention erased (a ∷ []))
  read_in erased (await row b act) = option_map (Read row) (first_of (speaks_of erased erased b) (values_mention erased act))
  read_in erased (sequence row s items) = first_of (read_in erased s) (read_in_items erased items)
  read_in erased (branch row b s t) = first_of (option_map (Read row) (speaks_of erased erased b)) (first_of (read_in erased s) (read_in erased t))
  read_in erased (loop row b s) = first_of (option_map (Read row) (speaks_of erased erased b)) (read_in erased s)

  pub read_in_items : List Bool → Items → Option Fault
  read_in_items erased (one s) = read_in erased s
  read_in_items erased (more s items) = first_of (read_in erased s) (read_in_items erased items)

-- the first in the parts
abbrev pub read_in_parts : List Bool → List PartTree → Option Fault
read_in_parts erased [] = None
read_in_parts erased (p ∷ ps) = first_of (read_in erased p.body) (read_in_parts erased ps)

-- no word stays that a step may change
abbrev pub nothing_left : List Word → Option Fault
nothing_left words = if nat_le (length words) (first_free words) then Some NothingLeft else None

-- why these words can't be erased from a program, if they can't: the first of these that is so
abbrev pub fault_of : List Bool → ProgramTree → Option Fault
fault_of erased p =
    first_of (nothing_left (staying erased p.words))
    (first_of (option_map Pre (undefined erased (in_pre erased) [] (conjuncts p.spec.pre)))
    (first_of (option_map Rely (undefined erased (in_rely erased p.words) [] (conjuncts p.spec.rely)))
    (read_in_parts erased p.parts)))
