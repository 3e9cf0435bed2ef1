-- What an assignment does to its word.
use Rattle.std.specs.Prelude.{ℕ, Bool, false, not, nat_eq, List, Option, Some, None, if◌then◌else◌}
use Rattle.std.specs.List.{filter}
use Rattle.rg_tree.specs.Trees.{Expression, Proposition, Assignment, number, word, next_word, inverse, binary, shifted, choice}

-- the value is the word itself
abbrev pub is_word : ℕ → Expression → Bool
is_word k (number w n) = false
is_word k (word j) = nat_eq k j
is_word k (next_word j) = false
is_word k (inverse w a) = false
is_word k (binary o w a b) = false
is_word k (shifted d w a n) = false
is_word k (choice f a b) = false

-- the assignment isn't one of a word to itself, which changes nothing
abbrev pub moves : Assignment → Bool
moves a = not (is_word a.target a.value)

-- the assignments that change something
abbrev pub moving : List Assignment → List Assignment
moving act = filter moves act

-- a change of a word: where this test holds, or always, to this value
pub record ChangeTree : Type 0 where
  pub test : Option Proposition
  pub value : Expression

-- how a word is changed by this value: x := (if F then E else x) changes x to E where F holds, and leaves it alone elsewhere
abbrev pub change_by : ℕ → Expression → ChangeTree
change_by k (number w n) = record { test = None; value = number w n }
change_by k (word j) = record { test = None; value = word j }
change_by k (next_word j) = record { test = None; value = next_word j }
change_by k (inverse w a) = record { test = None; value = inverse w a }
change_by k (binary o w a b) = record { test = None; value = binary o w a b }
change_by k (shifted d w a n) = record { test = None; value = shifted d w a n }
change_by k (choice f a b) = if is_word k b then record { test = Some f; value = a } else record { test = None; value = choice f a b }

abbrev pub change_of : Assignment → ChangeTree
change_of a = change_by a.target a.value
