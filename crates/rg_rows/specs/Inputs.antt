-- The input bits of a condition, and the states that they stand for.
use Rattle.std.specs.Prelude.{ℕ, zero, suc, ◌+◌, ◌/◌, ◌%◌, nat_eq, ◌++◌, Bool, false, cond, List, [], ◌∷◌, sum_by, map, Option, Some, None}
use Rattle.rg_gates.specs.declared.Lit.{Lit}
use Rattle.rg_gates.specs.declared.Lit.TheVariants.{Variable}
use Rattle.rg_words.specs.Layout.{Word, widths_of}
use Rattle.rg_words.specs.States.{Valuation}
use Rattle.rg_tree.specs.ConditionTrees.{ConditionTree, SecondState, free}
use Rattle.rg_rows.specs.Rows.{row_value}

-- the variables after the n-th, so many
abbrev pub variables : ℕ → ℕ → List Lit
variables n zero = []
variables n (suc w) = Variable (suc n) false ∷ variables (suc n) w

-- a row of input bits for each word of the first state
abbrev pub first_rows : ℕ → List Word → List (List Lit)
first_rows n [] = []
first_rows n (w ∷ words) = variables n w.width ∷ first_rows (n + w.width) words

-- and of the second state, where a fixed word has the first state's row
abbrev pub free_rows : ℕ → List Word → List (List Lit) → List (List Lit)
free_rows n (w ∷ words) (r ∷ rows) = cond w.fixed r (variables n w.width) ∷ free_rows (n + cond w.fixed 0 w.width) words rows
free_rows n _ _ = []

-- how many bits the words have
abbrev pub total_width : List Word → ℕ
total_width words = sum_by (λ w. w.width) words

-- how many bits the words have that aren't fixed
abbrev pub free_width : List Word → ℕ
free_width words = sum_by (λ w. cond w.fixed 0 w.width) words

-- how many inputs the second state has of its own
abbrev pub second_width : SecondState → List Word → ℕ
second_width free words = free_width words
second_width _ words = 0

-- the count of input bits
abbrev pub inputs_of : ConditionTree → ℕ
inputs_of c = total_width c.words + second_width c.second c.words

-- the rows of the second state's words before assignments: those of the first state, but where the second is free new inputs for each word that isn't fixed
abbrev pub before_rows : SecondState → List Word → List (List Lit)
before_rows free words = free_rows (total_width words) words (first_rows 0 words)
before_rows _ words = first_rows 0 words

-- the states that have these input bits
abbrev pub first_of : ConditionTree → List Bool → List ℕ
first_of c values = map (row_value values) (first_rows 0 c.words)

-- the second state that the values of the inputs give
abbrev pub second_of : ConditionTree → List Bool → List ℕ
second_of c values = map (row_value values) (before_rows c.second c.words)

-- values of the words as a state, and the second state of a condition that has one of its own
abbrev pub state_of : List Word → List ℕ → Valuation
state_of words s = record { widths = widths_of words; values = s }

-- the second state, where it is free
abbrev pub own_second : SecondState → List Word → List ℕ → Option Valuation
own_second free words t = Some (state_of words t)
own_second _ words t = None

-- the bits of a number, the low bit first
abbrev pub number_bits : ℕ → ℕ → List Bool
number_bits zero n = []
number_bits (suc w) n = nat_eq (n % 2) 1 ∷ number_bits w (n / 2)

-- the bits of a state, in declaration order, and those of the words that aren't fixed
abbrev pub state_bits : List Word → List ℕ → List Bool
state_bits (w ∷ words) (n ∷ state) = number_bits w.width n ++ state_bits words state
state_bits _ _ = []

-- the bits of the words that aren't fixed, one word after another
abbrev pub free_bits : List Word → List ℕ → List Bool
free_bits (w ∷ words) (n ∷ state) = cond w.fixed [] (number_bits w.width n) ++ free_bits words state
free_bits _ _ = []

-- the bits that the second state has as inputs of its own
abbrev pub second_bits : SecondState → List Word → List ℕ → List Bool
second_bits free words t = free_bits words t
second_bits _ words t = []

-- the bits of all inputs: of the first state, and then those of the second state's own
abbrev pub input_bits : ConditionTree → List ℕ → List ℕ → List Bool
input_bits c s t = state_bits c.words s ++ second_bits c.second c.words t
