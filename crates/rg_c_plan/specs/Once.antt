-- Steps that make at most one access at which they may meet another party.
use Rattle.std.specs.Prelude.{ℕ, Bool, true, false, not, ◌&&◌, ◌||◌, nat_eq, List, [], ◌∷◌, Option, Some, None}
use Rattle.std.specs.List.{list_any, find}
use Rattle.std.specs.Option.{option_map_or}
use Rattle.rg_words.specs.declared.operators.Operator.{Operator}
use Rattle.rg_words.specs.declared.operators.Operator.TheVariants.{Add, Subtract, BitAnd, BitOr, BitXor}
use Rattle.rg_words.specs.declared.operators.Comparison.TheVariants.{Equal}
use Rattle.rg_tree.specs.Trees.{Expression, Proposition, Assignment, number, word, next_word, inverse, binary, shifted, choice, truth, negation, connected, compared}
use Rattle.rg_c_plan.specs.Changes.{change_of}
use Rattle.rg_c_plan.specs.Accesses.{stands_in}
use Rattle.rg_c_plan.specs.Ways.{kind_at, is_atomic, is_shared, in_section, exposes_another, first_exposed}
use Rattle.rg_c_plan.specs.declared.kind.Kind.{Kind}

abbrev mutual
  -- an atomic word stands in an expression
  pub reads_atomic : List Kind → Expression → Bool
  reads_atomic kinds (number w n) = false
  reads_atomic kinds (word k) = is_atomic (kind_at kinds k)
  reads_atomic kinds (next_word k) = is_atomic (kind_at kinds k)
  reads_atomic kinds (inverse w a) = reads_atomic kinds a
  reads_atomic kinds (binary o w a b) = reads_atomic kinds a || reads_atomic kinds b
  reads_atomic kinds (shifted d w a n) = reads_atomic kinds a
  reads_atomic kinds (choice f a b) = tests_atomic kinds f || (reads_atomic kinds a || reads_atomic kinds b)

  pub tests_atomic : List Kind → Proposition → Bool
  tests_atomic kinds (truth b) = false
  tests_atomic kinds (negation f) = tests_atomic kinds f
  tests_atomic kinds (connected c f g) = tests_atomic kinds f || tests_atomic kinds g
  tests_atomic kinds (compared c a b) = reads_atomic kinds a || reads_atomic kinds b

abbrev mutual
  -- an evaluation of it may read atomic words more than once; of a choice the test is evaluated, and one side
  pub reads_twice : List Kind → Expression → Bool
  reads_twice kinds (number w n) = false
  reads_twice kinds (word k) = false
  reads_twice kinds (next_word k) = false
  reads_twice kinds (inverse w a) = reads_twice kinds a
  reads_twice kinds (binary o w a b) = (reads_twice kinds a || reads_twice kinds b) || (reads_atomic kinds a && reads_atomic kinds b)
  reads_twice kinds (shifted d w a n) = reads_twice kinds a
  reads_twice kinds (choice f a b) =
      (tests_twice kinds f || (reads_twice kinds a || reads_twice kinds b)) || (tests_atomic kinds f && (reads_atomic kinds a || reads_atomic kinds b))

  pub tests_twice : List Kind → Proposition → Bool
  tests_twice kinds (truth b) = false
  tests_twice kinds (negation f) = tests_twice kinds f
  tests_twice kinds (connected c f g) = (tests_twice kinds f || tests_twice kinds g) || (tests_atomic kinds f && tests_atomic kinds g)
  tests_twice kinds (compared c a b) = (reads_twice kinds a || reads_twice kinds b) || (reads_atomic kinds a && reads_atomic kinds b)

-- the same of a guard or test, if there is one
abbrev pub guard_reads : List Kind → Option Proposition → Bool
guard_reads kinds guard = option_map_or (λ f. tests_atomic kinds f) guard false

abbrev pub guard_reads_twice : List Kind → Option Proposition → Bool
guard_reads_twice kinds guard = option_map_or (λ f. tests_twice kinds f) guard false

-- an assignment writes a word at which it may meet another party
abbrev pub stores : List Kind → Assignment → Bool
stores kinds a = is_shared (kind_at kinds a.target)

-- it makes such a write, or reads an atomic word
abbrev pub accesses_atomic : List Kind → Assignment → Bool
accesses_atomic kinds a = guard_reads kinds (change_of a).test || (reads_atomic kinds (change_of a).value || stores kinds a)

-- it may make two such accesses
abbrev pub accesses_twice : List Kind → Assignment → Bool
accesses_twice kinds a =
    (guard_reads_twice kinds (change_of a).test || reads_twice kinds (change_of a).value)
    || ((guard_reads kinds (change_of a).test && (reads_atomic kinds (change_of a).value || stores kinds a)) || (reads_atomic kinds (change_of a).value && stores kinds a))

-- some of these assignments makes one, and they may make two
abbrev pub some_access : List Kind → List Assignment → Bool
some_access kinds act = list_any (accesses_atomic kinds) act

abbrev pub more_accesses : List Kind → List Assignment → Bool
more_accesses kinds [] = false
more_accesses kinds (a ∷ act) = accesses_twice kinds a || ((accesses_atomic kinds a && some_access kinds act) || more_accesses kinds act)

-- a step may make two such accesses
abbrev pub is_exposed_twice : List Kind → Option Proposition → List Assignment → Bool
is_exposed_twice kinds guard act = guard_reads_twice kinds guard || (more_accesses kinds act || (guard_reads kinds guard && some_access kinds act))

-- an index and its number: of x := (if E = n then V else x) these are E and n
pub record IndexTree : Type 0 where
  pub index : Expression
  pub place : ℕ

abbrev pub index_by : Proposition → Option IndexTree
index_by (compared Equal e (number w n)) = Some (record { index = e; place = n })
index_by f = None

abbrev pub index_of : Assignment → Option IndexTree
index_of a = option_map_or index_by (change_of a).test None

-- the operators are the same
abbrev pub is_operator : Operator → Operator → Bool
is_operator Add Add = true
is_operator Subtract Subtract = true
is_operator BitAnd BitAnd = true
is_operator BitOr BitOr = true
is_operator BitXor BitXor = true
is_operator o p = false

-- two indices are the same: words, numbers, and operations on such
abbrev pub is_index : Expression → Expression → Bool
is_index (number w n) (number v m) = nat_eq w v && nat_eq n m
is_index (word k) (word j) = nat_eq k j
is_index (binary o w a b) (binary p v c d) = (is_operator o p && nat_eq w v) && (is_index a c && is_index b d)
is_index e f = false

-- an assignment makes an access, and stores at this place
abbrev pub stores_at_place : List Kind → ℕ → Assignment → Bool
stores_at_place kinds n a = accesses_atomic kinds a && option_map_or (λ i. nat_eq n i.place) (index_of a) false

-- an assignment, before these others, makes no access, or stores at this index: at a place that none of the others stores at, and what doesn't read an atomic word
abbrev pub is_chosen_store : List Kind → Expression → Assignment → List Assignment → Bool
is_chosen_store kinds e a act =
    option_map_or (λ i. (is_index e i.index && not (reads_atomic kinds (change_of a).value)) && not (list_any (stores_at_place kinds i.place) act)) (index_of a) false

abbrev pub are_chosen : List Kind → Expression → List Assignment → Bool
are_chosen kinds e [] = true
are_chosen kinds e (a ∷ act) = (not (accesses_atomic kinds a) || is_chosen_store kinds e a act) && are_chosen kinds e act

-- an index stays what it is: no word that stands in it is assigned, and none is atomic
abbrev pub is_steady : List Kind → Expression → List Assignment → Bool
is_steady kinds e act = not (reads_atomic kinds e) && not (list_any (λ a. stands_in a.target e) act)

-- the index of the first assignment that makes an access
abbrev pub first_index : List Kind → List Assignment → Option IndexTree
first_index kinds act = option_map_or index_of (find (accesses_atomic kinds) act) None

-- a step stores at one of several places, which an index of its part's own words chooses
abbrev pub is_chosen : List Kind → Option Proposition → List Assignment → Bool
is_chosen kinds guard act =
    not (guard_reads kinds guard) && option_map_or (λ i. is_steady kinds i.index act && are_chosen kinds i.index act) (first_index kinds act) false

-- a step outside of sections exposes one word at most
abbrev pub exposes_one : List Kind → Option Proposition → List Assignment → Bool
exposes_one kinds guard act = not (in_section kinds guard act) && option_map_or (λ k. not (exposes_another kinds guard act k)) (first_exposed kinds guard act) true

-- a step is one access: it exposes one word at most, outside of sections, or it makes at most one access to an atomic word, whatever the state
abbrev pub is_one_access : List Kind → Option Proposition → List Assignment → Bool
is_one_access kinds guard act = exposes_one kinds guard act || (not (is_exposed_twice kinds guard act) || is_chosen kinds guard act)
