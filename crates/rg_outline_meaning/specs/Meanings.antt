-- What expressions of an outline stand for, and how trees are made of trees. The widths in them are 0, as they aren't known yet.
use Rattle.std.specs.Prelude.{◌≡◌, ◌≢◌, ℕ, zero, suc, ◌-◌, ◌*◌, ◌^◌, ltb, int_lt, ℤ, pos, negsuc, ◌+ℤ◌, ◌-ℤ◌, ◌*ℤ◌, Bool, true, false, not, ◌&&◌, ◌||◌, cond, List, [], ◌∷◌, ◌++◌, All, Contains, Option, Some, None, option_map}
use Rattle.std.specs.Int.{w128, int_rem_euclid, int_shr, int_bit_and, int_bit_or, int_bit_xor}
use Rattle.std.specs.Ordering.{int_eq}
use Rattle.rg_words.specs.declared.operators.Operator.{Operator}
use Rattle.rg_words.specs.declared.operators.Operator.TheVariants as operator
use Rattle.rg_words.specs.declared.operators.Shift.{Shift}
use Rattle.rg_words.specs.declared.operators.Shift.TheVariants.{Left, Right}
use Rattle.rg_words.specs.declared.operators.Comparison as words
use Rattle.rg_words.specs.declared.operators.Comparison.TheVariants as relation
use Rattle.rg_words.specs.declared.operators.Connective.TheVariants as connective
use Rattle.rg_tree.specs.Trees.{Expression, Proposition, number, word, next_word, inverse, binary, shifted, choice, truth, negation, connected, compared}
use Rattle.rg_tree.specs.Primes.{has_next_word, speaks_of_two}
use Rattle.rg_outline_syntax.specs.declared.written.Operator as written
use Rattle.rg_outline_syntax.specs.declared.written.Operator.TheVariants.{Add, Subtract, BitAnd, BitOr, BitXor, ShiftLeft, ShiftRight, Modulus}
use Rattle.rg_outline_syntax.specs.declared.written.Comparison as outline
use Rattle.rg_outline_syntax.specs.declared.written.Comparison.TheVariants.{Equal, NotEqual, Less, LessOrEqual, Greater, GreaterOrEqual}
use Rattle.rg_outline_syntax.specs.declared.written.Junction.{Junction}
use Rattle.rg_outline_syntax.specs.declared.written.Junction.TheVariants.{And, Or}
use Rattle.rg_outline_syntax.specs.declared.written.Conditional.{Conditional}
use Rattle.rg_outline_syntax.specs.declared.written.Conditional.TheVariants.{Implies, Iff}

-- a whole number, a value over words, or a formula
pub data Meaning : Type 0 where
  whole : ℤ → Meaning
  value : Expression → Meaning
  claim : Proposition → Meaning

-- a value as it stands beside words: a number below 0 is none
abbrev pub value_of : Meaning → Option Expression
value_of (whole (pos n)) = Some (number 0 n)
value_of (whole (negsuc n)) = None
value_of (value e) = Some e
value_of (claim p) = None

-- a formula that is known to be true, or false
abbrev pub is_true : Proposition → Bool
is_true (truth b) = b
is_true p = false

abbrev pub is_false : Proposition → Bool
is_false (truth b) = not b
is_false p = false

-- ---- formulas

-- `not` before a formula
abbrev pub negated : Proposition → Proposition
negated p = cond (is_true p) (truth false) (cond (is_false p) (truth true) (negation p))

-- two formulas with `and` or `or` between them: true is passed over beside `and`, and false makes all false; beside `or` it is the other way round
abbrev pub joined : Junction → Proposition → Proposition → Proposition
joined And p q = cond (is_true p) q (cond (is_true q) p (cond (is_false p || is_false q) (truth false) (connected connective.And p q)))
joined Or p q = cond (is_false p) q (cond (is_false q) p (cond (is_true p || is_true q) (truth true) (connected connective.Or p q)))

-- two formulas with `implies` or `iff` between them
abbrev pub implied : Conditional → Proposition → Proposition → Proposition
implied Implies p q = cond (is_true p) q (cond (is_true q || is_false p) (truth true) (connected connective.Implies p q))
implied Iff p q = cond (is_true p) q (cond (is_true q) p (connected connective.Iff p q))

-- `and` between the formulas so far, which are true where there are none, and one more
abbrev pub beside : Proposition → Proposition → Proposition
beside p q = cond (is_true p) q (connected connective.And p q)

-- the conjunction of formulas, nested to the left: without those that are true or equal to an earlier one. It goes on from the earlier ones, and from what
-- they made
pub data IsConjunctionAfter : List Proposition → Proposition → List Proposition → Proposition → Type 0 where
  ended : (before : List Proposition) (p : Proposition) → IsConjunctionAfter before p [] p
  true_passed : (before : List Proposition) (p q : Proposition) (rest : List Proposition) (r : Proposition)
      → is_true q ≡ true
      → IsConjunctionAfter (before ++ q ∷ []) p rest r
      → IsConjunctionAfter before p (q ∷ rest) r
  equal_passed : (before : List Proposition) (p q : Proposition) (rest : List Proposition) (r : Proposition)
      → Contains before q
      → IsConjunctionAfter (before ++ q ∷ []) p rest r
      → IsConjunctionAfter before p (q ∷ rest) r
  taken : (before : List Proposition) (p q : Proposition) (rest : List Proposition) (r : Proposition)
      → is_true q ≡ false
      → All (λ other. other ≢ q) before
      → IsConjunctionAfter (before ++ q ∷ []) (beside p q) rest r
      → IsConjunctionAfter before p (q ∷ rest) r

abbrev pub IsConjunction : List Proposition → Proposition → Type 0
IsConjunction ps p = IsConjunctionAfter [] (truth true) ps p

-- ---- the next state

-- a value and a formula with each word primed
abbrev mutual
  pub next_value : Expression → Expression
  next_value (number w n) = number w n
  next_value (word k) = next_word k
  next_value (next_word k) = next_word k
  next_value (inverse w a) = inverse w (next_value a)
  next_value (binary o w a b) = binary o w (next_value a) (next_value b)
  next_value (shifted d w a k) = shifted d w (next_value a) k
  next_value (choice f a b) = choice (next_claim f) (next_value a) (next_value b)

  pub next_claim : Proposition → Proposition
  next_claim (truth b) = truth b
  next_claim (negation f) = negation (next_claim f)
  next_claim (connected c f g) = connected c (next_claim f) (next_claim g)
  next_claim (compared c a b) = compared c (next_value a) (next_value b)

abbrev pub next_meaning : Meaning → Meaning
next_meaning (whole z) = whole z
next_meaning (value e) = value (next_value e)
next_meaning (claim p) = claim (next_claim p)

-- it speaks of a second state
abbrev pub is_primed : Meaning → Bool
is_primed (whole z) = false
is_primed (value e) = has_next_word e
is_primed (claim p) = speaks_of_two p

-- a use stands for what its name stands for, in the next state where it is primed; what is primed has no word that is primed already
pub data IsUsed : Bool → Meaning → Meaning → Type 0 where
  plain : (m : Meaning) → IsUsed false m m
  primed : (m : Meaning) → is_primed m ≡ false → IsUsed true m (next_meaning m)

-- a formula implies itself in the next state
abbrev pub keeping : Proposition → Proposition
keeping p = cond (is_true p || is_false p) (truth true) (connected connective.Implies p (next_claim p))

-- ---- numbers

-- a number that an outline may have
abbrev pub within : ℤ → Option ℤ
within z = cond (int_lt (negsuc 18446744073709551615) z && int_lt z (pos 18446744073709551616)) (Some z) None

-- an operation on two numbers, on their bits as those of 128 bits where it is one on bits
abbrev pub computed : written.Operator → ℤ → ℤ → Option ℤ
computed Add a b = within (a +ℤ b)
computed Subtract a b = within (a -ℤ b)
computed BitAnd a b = within (int_bit_and w128 a b)
computed BitOr a b = within (int_bit_or w128 a b)
computed BitXor a b = within (int_bit_xor w128 a b)
computed ShiftLeft a (pos k) = cond (ltb k 64) (within (a *ℤ pos (2 ^ k))) None
computed ShiftLeft a (negsuc k) = None
computed ShiftRight a (pos k) = cond (ltb k 64) (within (int_shr a k)) None
computed ShiftRight a (negsuc k) = None
computed Modulus a (pos zero) = None
computed Modulus a (pos (suc n)) = within (int_rem_euclid a (pos (suc n)))
computed Modulus a (negsuc k) = None

-- two numbers compare so
abbrev pub compares : outline.Comparison → ℤ → ℤ → Bool
compares Equal a b = int_eq a b
compares NotEqual a b = not (int_eq a b)
compares Less a b = int_lt a b
compares LessOrEqual a b = not (int_lt b a)
compares Greater a b = int_lt b a
compares GreaterOrEqual a b = not (int_lt a b)

-- ---- values

-- the operation on words that an operator is
abbrev pub operation : written.Operator → Option Operator
operation Add = Some operator.Add
operation Subtract = Some operator.Subtract
operation BitAnd = Some operator.BitAnd
operation BitOr = Some operator.BitOr
operation BitXor = Some operator.BitXor
operation ShiftLeft = None
operation ShiftRight = None
operation Modulus = None

-- an operation on two values beside words
abbrev pub binary_of : Option Operator → Option Expression → Option Expression → Option Meaning
binary_of (Some o) (Some a) (Some b) = Some (value (binary o 0 a b))
binary_of (Some o) (Some a) None = None
binary_of (Some o) None b = None
binary_of None a b = None

-- a value moved by a number of bits
abbrev pub shifted_of : Shift → Option Expression → Meaning → Option Meaning
shifted_of d (Some a) (whole (pos k)) = cond (ltb k 64) (Some (value (shifted d 0 a k))) None
shifted_of d (Some a) (whole (negsuc k)) = None
shifted_of d (Some a) (value e) = None
shifted_of d (Some a) (claim p) = None
shifted_of d None m = None

-- an operation on a value over words, or beside one
abbrev pub over_words : written.Operator → Meaning → Meaning → Option Meaning
over_words ShiftLeft m n = shifted_of Left (value_of m) n
over_words ShiftRight m n = shifted_of Right (value_of m) n
over_words o m n = binary_of (operation o) (value_of m) (value_of n)

-- an operation on two values: of two numbers it is computed
abbrev pub operated : written.Operator → Meaning → Meaning → Option Meaning
operated o (whole a) (whole b) = option_map (λ z. whole z) (computed o a b)
operated o (whole a) (value e) = over_words o (whole a) (value e)
operated o (whole a) (claim p) = None
operated o (value e) n = over_words o (value e) n
operated o (claim p) n = None

-- the comparison of words that a comparison is
abbrev pub comparison_of : outline.Comparison → words.Comparison
comparison_of Equal = relation.Equal
comparison_of NotEqual = relation.NotEqual
comparison_of Less = relation.Less
comparison_of LessOrEqual = relation.LessOrEqual
comparison_of Greater = relation.Greater
comparison_of GreaterOrEqual = relation.GreaterOrEqual

abbrev pub compared_of : outline.Comparison → Option Expression → Option Expression → Option Proposition
compared_of c (Some a) (Some b) = Some (compared (comparison_of c) a b)
compared_of c (Some a) None = None
compared_of c None b = None

-- a comparison of two values: of two numbers it is true or false
abbrev pub comparing : outline.Comparison → Meaning → Meaning → Option Proposition
comparing c (whole a) (whole b) = Some (truth (compares c a b))
comparing c (whole a) (value e) = compared_of c (value_of (whole a)) (Some e)
comparing c (whole a) (claim p) = None
comparing c (value e) n = compared_of c (Some e) (value_of n)
comparing c (claim p) n = None

abbrev pub choice_of : Proposition → Option Expression → Option Expression → Option Meaning
choice_of p (Some a) (Some b) = Some (value (choice p a b))
choice_of p (Some a) None = None
choice_of p None b = None

-- a choice between two values: a test that is known decides
abbrev pub choosing : Proposition → Meaning → Meaning → Option Meaning
choosing p m n = cond (is_true p) (Some m) (cond (is_false p) (Some n) (choice_of p (value_of m) (value_of n)))

-- a value is a number
abbrev pub equals : Expression → ℕ → Proposition
equals e n = compared relation.Equal e (number 0 n)

-- a word stays the same
abbrev pub same_word : ℕ → Proposition
same_word k = compared relation.Equal (next_word k) (word k)
