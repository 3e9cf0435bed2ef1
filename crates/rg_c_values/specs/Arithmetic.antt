-- What C computes: arithmetic of unsigned numbers, which is modulo two to the power of the bits of their type.
use Rattle.std.specs.Prelude.{ℕ, ◌+◌, ◌-◌, ◌*◌, ◌/◌, ◌%◌, ◌^◌, Bool, not, ◌&&◌, ◌||◌, cond, nat_eq, nat_lt, List, slice_index, bit_and, bit_or, bit_xor}
use Rattle.rg_words.specs.declared.operators.Operator.{Operator}
use Rattle.rg_words.specs.declared.operators.Operator.TheVariants.{Add, Subtract, BitAnd, BitOr, BitXor}
use Rattle.rg_words.specs.declared.operators.Shift.{Shift}
use Rattle.rg_words.specs.declared.operators.Shift.TheVariants.{Left, Right}
use Rattle.rg_words.specs.declared.operators.Comparison.{Comparison}
use Rattle.rg_words.specs.declared.operators.Comparison.TheVariants.{Equal, NotEqual, Less, LessOrEqual, Greater, GreaterOrEqual}
use Rattle.rg_c_values.specs.declared.tree.Joint.{Joint}
use Rattle.rg_c_values.specs.declared.tree.Joint.TheVariants.{And, Or, Same}
use Rattle.rg_c_values.specs.CTrees.{CValue, CTest, c_literal, c_word, c_cast, c_inverse, c_binary, c_rest, c_shifted, c_choice, c_truth, c_not, c_joined, c_compared}

-- `+`, `-`, `&`, `|` and `^` of two numbers of the unsigned type of g bits
abbrev pub c_operated : Operator → ℕ → ℕ → ℕ → ℕ
c_operated Add g a b = (a + b) % 2 ^ g
c_operated Subtract g a b = (a + (2 ^ g - b)) % 2 ^ g
c_operated BitAnd g a b = bit_and a b
c_operated BitOr g a b = bit_or a b
c_operated BitXor g a b = bit_xor a b

-- `<<` and `>>` by k of a number of the unsigned type of g bits
abbrev pub c_moved : Shift → ℕ → ℕ → ℕ → ℕ
c_moved Left g a k = a * 2 ^ k % 2 ^ g
c_moved Right g a k = a / 2 ^ k

-- `==`, `!=`, `<`, `<=`, `>` and `>=` of two numbers
abbrev pub c_is_so : Comparison → ℕ → ℕ → Bool
c_is_so Equal a b = nat_eq a b
c_is_so NotEqual a b = not (nat_eq a b)
c_is_so Less a b = nat_lt a b
c_is_so LessOrEqual a b = not (nat_lt b a)
c_is_so Greater a b = nat_lt b a
c_is_so GreaterOrEqual a b = not (nat_lt a b)

-- `&&`, `||` and `==` of two tests
abbrev pub c_joins : Joint → Bool → Bool → Bool
c_joins And a b = a && b
c_joins Or a b = a || b
c_joins Same a b = cond a b (not b)

abbrev mutual
  -- the number that C computes of a value, the words read in s: a cast to n bits is modulo 2 ^ n, `~` turns each bit, and `%` leaves the rest
  pub c_value : CValue → List ℕ → ℕ
  c_value (c_literal n) s = n
  c_value (c_word c k) s = slice_index s k
  c_value (c_cast n v) s = c_value v s % 2 ^ n
  c_value (c_inverse g v) s = 2 ^ g - 1 - c_value v s
  c_value (c_binary o g a b) s = c_operated o g (c_value a s) (c_value b s)
  c_value (c_rest g v n) s = c_value v s % n
  c_value (c_shifted d g v k) s = c_moved d g (c_value v s) k
  c_value (c_choice t a b) s = cond (c_holds t s) (c_value a s) (c_value b s)

  -- whether a test is true
  pub c_holds : CTest → List ℕ → Bool
  c_holds (c_truth b) s = b
  c_holds (c_not t) s = not (c_holds t s)
  c_holds (c_joined j t u) s = c_joins j (c_holds t s) (c_holds u s)
  c_holds (c_compared c a b) s = c_is_so c (c_value a s) (c_value b s)
