-- What the operations build on rows of literals, the low bit first.
use Rattle.std.specs.Prelude.{ℕ, zero, suc, ◌+◌, ◌*◌, ◌/◌, ◌%◌, Bool, true, false, cond, nat_eq, min, List, [], ◌∷◌, ◌++◌, length, map, take, drop, replicate}
use Rattle.rg_gates.specs.declared.Lit.{Lit}
use Rattle.rg_gates.specs.declared.Lit.TheVariants.{True, False}
use Rattle.rg_gates.specs.Circuit.{negation, lit_value}
use Rattle.rg_gates.specs.And.{and_of}
use Rattle.rg_rows.specs.declared.rows.BitOperation.{BitOperation}
use Rattle.rg_rows.specs.declared.rows.BitOperation.TheVariants.{And, Or, Xor, Pick}
use Rattle.rg_rows.specs.declared.rows.Test.{Test}
use Rattle.rg_rows.specs.declared.rows.Test.TheVariants.{Equal, AtLeast}
use Rattle.rg_rows.specs.Build.{Build, ◌>>=◌, give}
use Rattle.rg_rows.specs.Literals.{or_of, xor_of, pick_of}

-- the number that a row stands for
abbrev pub row_value : List Bool → List Lit → ℕ
row_value values [] = 0
row_value values (l ∷ row) = cond (lit_value values l) 1 0 + 2 * row_value values row

-- both rows have a bit
abbrev pub is_more : List Lit → List Lit → Bool
is_more (a ∷ as_) (b ∷ bs) = true
is_more _ _ = false

-- the carry out of a bit, where x is the exclusive or of a and b
unfoldable pub carry_of : Lit → Lit → Lit → Lit → Build Lit
carry_of a b x c = do
  p ← and_of a b
  q ← and_of c x
  or_of p q

-- the carry into the next bit, where there is one
unfoldable pub next_of : Bool → Lit → Lit → Lit → Lit → Build Lit
next_of true a b x c = carry_of a b x c
next_of false a b x c = give c

-- a bit of the sum, and the carry into the next bit
unfoldable pub sum_bit_of : Lit → Lit → Lit → Bool → Build (Lit × Lit)
sum_bit_of a b c more = do
  x ← xor_of a b
  s ← xor_of x c
  d ← next_of more a b x c
  give (s, d)

-- the sum of two rows and a carry, as many bits as the shorter has
unfoldable pub sum_of : List Lit → List Lit → Lit → Build (List Lit)
sum_of (a ∷ as_) (b ∷ bs) c = do
  bit ← sum_bit_of a b c (is_more as_ bs)
  rest ← sum_of as_ bs bit.1
  give (bit.0 ∷ rest)
sum_of _ _ c = give []

-- one bit of an operation bit by bit
unfoldable pub bit_of : BitOperation → Lit → Lit → Build Lit
bit_of And a b = and_of a b
bit_of Or a b = or_of a b
bit_of Xor a b = xor_of a b
bit_of (Pick c) a b = pick_of c a b

-- an operation on each pair of bits of two rows
unfoldable pub bits_of : BitOperation → List Lit → List Lit → Build (List Lit)
bits_of o (a ∷ as_) (b ∷ bs) = do
  l ← bit_of o a b
  rest ← bits_of o as_ bs
  give (l ∷ rest)
bits_of o _ _ = give []

-- a test of two rows, one bit after the other
unfoldable pub test_bit_of : Test → Lit → Lit → Lit → Build Lit
test_bit_of Equal a b e = do
  x ← xor_of a b
  and_of e (negation x)
test_bit_of AtLeast a b c = do
  x ← xor_of a (negation b)
  carry_of a (negation b) x c

-- a comparison of two rows, from the low bits to the high ones, where this literal is its outcome so far
unfoldable pub test_of : Test → List Lit → List Lit → Lit → Build Lit
test_of t (a ∷ as_) (b ∷ bs) c = do
  d ← test_bit_of t a b c
  test_of t as_ bs d
test_of t _ _ c = give c

-- rows without gates
abbrev pub inverted : List Lit → List Lit
inverted row = map negation row

-- the w low bits of n
abbrev pub number_row : ℕ → ℕ → List Lit
number_row zero n = []
number_row (suc w) n = cond (nat_eq (n % 2) 1) True False ∷ number_row w (n / 2)

-- the row shifted by k places to the high bits, with zeros after it, in as many bits
abbrev pub shifted_left : ℕ → List Lit → List Lit
shifted_left k row = take (length row) (replicate k False ++ row)

-- the row shifted by k places to the low bits, with zeros before it, in as many bits
abbrev pub shifted_right : ℕ → List Lit → List Lit
shifted_right k row = drop k row ++ replicate (min k (length row)) False
