-- Rows: an expression for each word, which tells the word's value in some state.
use Rattle.std.specs.Prelude.{ℕ, zero, suc, List, [], ◌∷◌, ◌++◌, slice_set}
use Rattle.rg_tree.specs.Trees.{Expression, word, next_word, Assignment}
use Rattle.rg_tree.specs.ConditionTrees.{SecondState, same, free, after}
use Rattle.rgc_answers.specs.Replaced.{expression_over}

-- each of the first n words in the first state
abbrev pub plain_row : ℕ → List Expression
plain_row zero = []
plain_row (suc n) = plain_row n ++ word n ∷ []

-- each of them in the second state
abbrev pub primed_row : ℕ → List Expression
primed_row zero = []
primed_row (suc n) = primed_row n ++ next_word n ∷ []

-- the row after assignments, in order: each reads what the earlier ones wrote
abbrev pub assigned_row : List Assignment → List Expression → List Expression
assigned_row [] row = row
assigned_row (a ∷ act) row = assigned_row act (slice_set row a.target (expression_over row row a.value))

-- where a word is assigned to, it is read in the second state
abbrev pub moved_row : List Assignment → List Expression → List Expression
moved_row [] row = row
moved_row (a ∷ act) row = moved_row act (slice_set row a.target (next_word a.target))

-- the second state that hypotheses read: there is one only where it is free
abbrev pub before_row : SecondState → ℕ → List Expression
before_row free n = primed_row n
before_row _ n = plain_row n

-- the second state that the goal reads
abbrev pub second_row : SecondState → ℕ → List Expression
second_row same n = plain_row n
second_row free n = primed_row n
second_row (after act) n = moved_row act (plain_row n)
