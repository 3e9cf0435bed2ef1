-- What an expression and a formula build, over a row for each word of the two states.
use Rattle.std.specs.Prelude.{ℕ, cond, List, [], get_or}
use Rattle.rg_gates.specs.declared.Lit.{Lit}
use Rattle.rg_gates.specs.declared.Lit.TheVariants.{True, False}
use Rattle.rg_gates.specs.Circuit as circuit
use Rattle.rg_gates.specs.And.{and_of}
use Rattle.rg_words.specs.declared.operators.Operator.{Operator}
use Rattle.rg_words.specs.declared.operators.Operator.TheVariants.{Add, Subtract, BitAnd, BitOr, BitXor}
use Rattle.rg_words.specs.declared.operators.Shift.{Shift}
use Rattle.rg_words.specs.declared.operators.Shift.TheVariants.{Left, Right}
use Rattle.rg_words.specs.declared.operators.Comparison.{Comparison}
use Rattle.rg_words.specs.declared.operators.Comparison.TheVariants.{Equal, NotEqual, Less, LessOrEqual, Greater, GreaterOrEqual}
use Rattle.rg_words.specs.declared.operators.Connective.{Connective}
use Rattle.rg_words.specs.declared.operators.Connective.TheVariants.{And, Or, Implies, Iff}
use Rattle.rg_tree.specs.Trees.{Expression, Proposition, number, word, next_word, inverse, binary, shifted, choice, truth, negation, connected, compared}
use Rattle.rg_rows.specs.declared.rows.BitOperation.TheVariants as bit
use Rattle.rg_rows.specs.declared.rows.Test.TheVariants as test
use Rattle.rg_rows.specs.Build.{Build, ◌>>=◌, give}
use Rattle.rg_rows.specs.Literals.{or_of, implies_of, iff_of}
use Rattle.rg_rows.specs.Rows.{sum_of, bits_of, test_of, inverted, number_row, shifted_left, shifted_right}

-- the row of an operation on two rows
unfoldable pub operated_of : Operator → List Lit → List Lit → Build (List Lit)
operated_of Add p q = sum_of p q False
operated_of Subtract p q = sum_of p (inverted q) True
operated_of BitAnd p q = bits_of bit.And p q
operated_of BitOr p q = bits_of bit.Or p q
operated_of BitXor p q = bits_of bit.Xor p q

-- the row shifted by k places
abbrev pub moved_row : Shift → ℕ → List Lit → List Lit
moved_row Left k row = shifted_left k row
moved_row Right k row = shifted_right k row

-- the first row's number is below the second's
unfoldable pub less_of : List Lit → List Lit → Build Lit
less_of p q = do
  c ← test_of test.AtLeast p q True
  give (circuit.negation c)

-- a comparison of the numbers of two rows
unfoldable pub compared_of : Comparison → List Lit → List Lit → Build Lit
compared_of Equal p q = test_of test.Equal p q True
compared_of NotEqual p q = do
  l ← test_of test.Equal p q True
  give (circuit.negation l)
compared_of Less p q = less_of p q
compared_of LessOrEqual p q = do
  l ← less_of q p
  give (circuit.negation l)
compared_of Greater p q = less_of q p
compared_of GreaterOrEqual p q = do
  l ← less_of p q
  give (circuit.negation l)

-- a connective of two literals
unfoldable pub connected_of : Connective → Lit → Lit → Build Lit
connected_of And p q = and_of p q
connected_of Or p q = or_of p q
connected_of Implies p q = implies_of p q
connected_of Iff p q = iff_of p q

-- plain words are read in the first rows, primed words in the second; operands are built left to right
unfoldable mutual
  pub row_of : Expression → List (List Lit) → List (List Lit) → Build (List Lit)
  row_of (number w n) s t = give (number_row w n)
  row_of (word k) s t = give (get_or s k [])
  row_of (next_word k) s t = give (get_or t k [])
  row_of (inverse w a) s t = do
    p ← row_of a s t
    give (inverted p)
  row_of (binary o w a b) s t = do
    p ← row_of a s t
    q ← row_of b s t
    operated_of o p q
  row_of (shifted d w a k) s t = do
    p ← row_of a s t
    give (moved_row d k p)
  row_of (choice f a b) s t = do
    c ← literal_of f s t
    p ← row_of a s t
    q ← row_of b s t
    bits_of (bit.Pick c) p q

  pub literal_of : Proposition → List (List Lit) → List (List Lit) → Build Lit
  literal_of (truth b) s t = give (cond b True False)
  literal_of (negation f) s t = do
    l ← literal_of f s t
    give (circuit.negation l)
  literal_of (connected c f g) s t = do
    p ← literal_of f s t
    q ← literal_of g s t
    connected_of c p q
  literal_of (compared c a b) s t = do
    p ← row_of a s t
    q ← row_of b s t
    compared_of c p q
