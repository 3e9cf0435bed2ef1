-- What an expression and a formula mean on two states, each a list of the words' values.
use Rattle.std.specs.Prelude.{ℕ, ◌+◌, ◌-◌, ◌*◌, ◌/◌, ◌%◌, ◌^◌, Bool, not, ◌&&◌, ◌||◌, cond, nat_eq, nat_lt, List, slice_index, bit_and, bit_or, bit_xor}
use Rattle.rg_words.specs.declared.operators.Operator.{Operator}
use Rattle.rg_words.specs.declared.operators.Operator.TheVariants.{Add, Subtract, BitAnd, BitOr, BitXor}
use Rattle.rg_words.specs.declared.operators.Shift.{Shift}
use Rattle.rg_words.specs.declared.operators.Shift.TheVariants.{Left, Right}
use Rattle.rg_words.specs.declared.operators.Comparison.{Comparison}
use Rattle.rg_words.specs.declared.operators.Comparison.TheVariants.{Equal, NotEqual, Less, LessOrEqual, Greater, GreaterOrEqual}
use Rattle.rg_words.specs.declared.operators.Connective.{Connective}
use Rattle.rg_words.specs.declared.operators.Connective.TheVariants.{And, Or, Implies, Iff}
use Rattle.rg_tree.specs.Trees.{Expression, Proposition, number, word, next_word, inverse, binary, shifted, choice, truth, negation, connected, compared}

-- the value of an operation at w bits
abbrev pub operated : Operator → ℕ → ℕ → ℕ → ℕ
operated Add w a b = (a + b) % 2 ^ w
operated Subtract w a b = (a + (2 ^ w - b)) % 2 ^ w
operated BitAnd w a b = bit_and a b
operated BitOr w a b = bit_or a b
operated BitXor w a b = bit_xor a b

-- the value of a shift by k at w bits
abbrev pub moved : Shift → ℕ → ℕ → ℕ → ℕ
moved Left w a k = a * 2 ^ k % 2 ^ w
moved Right w a k = a / 2 ^ k

-- whether a comparison of unsigned numbers is so
abbrev pub is_so : Comparison → ℕ → ℕ → Bool
is_so Equal a b = nat_eq a b
is_so NotEqual a b = not (nat_eq a b)
is_so Less a b = nat_lt a b
is_so LessOrEqual a b = not (nat_lt b a)
is_so Greater a b = nat_lt b a
is_so GreaterOrEqual a b = not (nat_lt a b)

-- the truth of two formulas joined
abbrev pub joined : Connective → Bool → Bool → Bool
joined And a b = a && b
joined Or a b = a || b
joined Implies a b = not a || b
joined Iff a b = cond a b (not b)

-- the value of an expression and the truth of a formula, words read in s and primed words in t
abbrev mutual
  pub value_of : Expression → List ℕ → List ℕ → ℕ
  value_of (number w n) s t = n
  value_of (word k) s t = slice_index s k
  value_of (next_word k) s t = slice_index t k
  value_of (inverse w a) s t = 2 ^ w - 1 - value_of a s t
  value_of (binary o w a b) s t = operated o w (value_of a s t) (value_of b s t)
  value_of (shifted d w a k) s t = moved d w (value_of a s t) k
  value_of (choice f a b) s t = cond (holds f s t) (value_of a s t) (value_of b s t)

  pub holds : Proposition → List ℕ → List ℕ → Bool
  holds (truth b) s t = b
  holds (negation f) s t = not (holds f s t)
  holds (connected c f g) s t = joined c (holds f s t) (holds g s t)
  holds (compared c a b) s t = is_so c (value_of a s t) (value_of b s t)
