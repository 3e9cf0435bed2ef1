-- what the operations on rows mean
use Rattle.std.proofs.Math.Nat.{pow-succ', mul_assoc}
use Rattle.std.proofs.Common.{◌≡◌, ℕ, suc, ◌+◌, ◌*◌, ◌≤◌, ◌^◌, Bool, true, false, not, ◌&&◌, ◌||◌, cond, nat_eq, nat_lt, List, [], ◌∷◌, length, refl, ap, ◌∙◌, arith}
use Rattle.std.proofs.lemmas.Bool.Decides.{nat_tests}
use Rattle.rg_gates.specs.declared.Lit.{Lit}
use Rattle.rg_gates.specs.Circuit.{Circuit, variable_count, negation, lit_value}
use Rattle.rg_gates.specs.And.{and_of}
use Rattle.rg_rows.specs.Literals.{or_of, xor_of}
use Rattle.rg_rows.specs.declared.rows.BitOperation.{BitOperation}
use Rattle.rg_rows.specs.declared.rows.BitOperation.TheVariants.{And, Or, Xor, Pick}
use Rattle.rg_rows.specs.declared.rows.Test.{Test}
use Rattle.rg_rows.specs.declared.rows.Test.TheVariants.{Equal, AtLeast}
use Rattle.rg_rows.specs.Rows.{row_value, is_more, carry_of, next_of, sum_bit_of, sum_of, bit_of, bits_of, test_bit_of, test_of}
use Rattle.rg_rows.proofs.Means.{Means, give-means, then-means, weaker-means, grows-means}
use Rattle.rg_rows.proofs.LiteralsMean.{negation_value, IsValue, and-means, or-means, xor-means, pick-means, differ}

abbrev pub majority : Bool → Bool → Bool → Bool
majority x y z = (x && y) || (z && differ x y)

pub carry-means : (a b x c : Lit) → Means (carry_of a b x c) (IsValue (λ v. (lit_value v a && lit_value v b) || (lit_value v c && lit_value v x)))
unfolding carry_of
carry-means a b x c =
    then-means (and_of a b) _ _ _ (and-means a b) (λ p.
    then-means (and_of c x) _ _ _ (and-means c x) (λ q.
    weaker-means (or_of p q) _ _ (λ v l e g f.
    e ∙ ap (λ y. y || lit_value v q) f ∙ ap (λ y. (lit_value v a && lit_value v b) || y) g) (or-means p q)))

abbrev pub IsSumBit : Lit → Lit → Lit → Bool → List Bool → Lit × Lit → Type 0
IsSumBit a b c more v r =
    (lit_value v r.0 ≡ differ (differ (lit_value v a) (lit_value v b)) (lit_value v c))
    × (more ≡ true → lit_value v r.1 ≡ majority (lit_value v a) (lit_value v b) (lit_value v c))

pub next-means : (more : Bool) (a b x c : Lit) → Means (next_of more a b x c) (λ v l. more ≡ true → lit_value v l ≡ ((lit_value v a && lit_value v b) || (lit_value v c && lit_value v x)))
unfolding next_of
next-means true a b x c = weaker-means (carry_of a b x c) _ _ (λ v l e h. e) (carry-means a b x c)
next-means false a b x c = give-means c _ (λ v h. (cc))

pub sum_bit-means : (a b c : Lit) (more : Bool) → Means (sum_bit_of a b c more) (IsSumBit a b c more)
unfolding sum_bit_of
sum_bit-means a b c more =
    then-means (xor_of a b) _ _ _ (xor-means a b) (λ x.
    then-means (xor_of x c) _ _ _ (xor-means x c) (λ s.
    then-means (next_of more a b x c) _ _ _ (next-means more a b x c) (λ d.
    give-means (s, d) _ (λ v next sum either. (
      sum ∙ ap (λ y. differ y (lit_value v c)) either,
      λ h. next h ∙ ap (λ y. (lit_value v a && lit_value v b) || (lit_value v c && y)) either,
    )))))

abbrev pub bit_value : BitOperation → List Bool → Bool → Bool → Bool
bit_value And v x y = x && y
bit_value Or v x y = x || y
bit_value Xor v x y = differ x y
bit_value (Pick c) v x y = cond (lit_value v c) x y

pub bit-means : (o : BitOperation) (a b : Lit) → Means (bit_of o a b) (IsValue (λ v. bit_value o v (lit_value v a) (lit_value v b)))
unfolding bit_of
bit-means And a b = and-means a b
bit-means Or a b = or-means a b
bit-means Xor a b = xor-means a b
bit-means (Pick c) a b = pick-means c a b

abbrev pub test_bit_value : Test → Bool → Bool → Bool → Bool
test_bit_value Equal x y e = e && not (differ x y)
test_bit_value AtLeast x y c = majority x (not y) c

pub test_bit-means : (t : Test) (a b c : Lit) → Means (test_bit_of t a b c) (IsValue (λ v. test_bit_value t (lit_value v a) (lit_value v b) (lit_value v c)))
unfolding test_bit_of
test_bit-means Equal a b e =
    then-means (xor_of a b) _ _ _ (xor-means a b) (λ x.
    weaker-means (and_of e (negation x)) _ _ (λ v l h f.
    h ∙ ap (λ y. lit_value v e && y) (negation_value v x ∙ ap not f)) (and-means e (negation x)))
test_bit-means AtLeast a b c =
    then-means (xor_of a (negation b)) _ _ _ (xor-means a (negation b)) (λ x.
    weaker-means (carry_of a (negation b) x c) _ _ (λ v l h f.
    h ∙ ap (λ y. (lit_value v a && lit_value v (negation b)) || (lit_value v c && y)) f
    ∙ ap (λ y. majority (lit_value v a) y (lit_value v c)) (negation_value v b)) (carry-means a (negation b) x c))

-- the number that a row stands for after a carry-in, up to a multiple of the size
abbrev pub number_of : Bool → ℕ
number_of b = cond b 1 0

-- sum and carry of one bit
bit_sum : (x y z : Bool) → number_of (differ (differ x y) z) + 2 * number_of (majority x y z) ≡ number_of x + number_of y + number_of z
bit_sum true true true = refl
bit_sum true true false = refl
bit_sum true false true = refl
bit_sum true false false = refl
bit_sum false true true = refl
bit_sum false true false = refl
bit_sum false false true = refl
bit_sum false false false = refl

-- the sum of the rows, less what doesn't fit
abbrev pub IsSum : List Lit → List Lit → Lit → List Bool → List Lit → Type 0
IsSum as_ bs c v row =
    (length row ≡ length as_) × ((k : ℕ) × (row_value v row + 2 ^ length as_ * k ≡ row_value v as_ + row_value v bs + number_of (lit_value v c)))

pub pow_times : (n k : ℕ) → 2 ^ suc n * k ≡ 2 * (2 ^ n * k)
pow_times n k = ap (λ m. m * k) (pow-succ' 2 n) ∙ mul_assoc 2 (2 ^ n) k

sum-next : (a b : Lit) (as_ bs : List Lit) (c s d : Lit) (v : List Bool) (rest : List Lit) → length as_ ≡ length bs → IsSumBit a b c (is_more as_ bs) v (s, d) → IsSum as_ bs d v rest → IsSum (a ∷ as_) (b ∷ bs) c v (s ∷ rest)
sum-next a b [] [] c s d v [] same bit ih =
    let e = bit_sum (lit_value v a) (lit_value v b) (lit_value v c) in
    let f = ap number_of bit.0 in
    let m = majority (lit_value v a) (lit_value v b) (lit_value v c) in
    (refl, (number_of m, omega (arith, e, f)))
sum-next a b [] [] c s d v (x ∷ rest) same bit ih = absurd (omega (arith, ih.0))
sum-next a b (x ∷ as_) (y ∷ bs) c s d v rest same bit ih =
    let e = bit_sum (lit_value v a) (lit_value v b) (lit_value v c) in
    let f = ap number_of bit.0 in
    let g = ap number_of (bit.1 refl) in
    let k = ih.1.0 in
    let total = ih.1.1 in
    let p = pow_times (length (x ∷ as_)) k in
    (omega (arith, ih.0), (k, omega (arith, e, f, g, total, p)))
sum-next a b [] (y ∷ bs) c s d v rest same bit ih = absurd (omega (arith, same))
sum-next a b (x ∷ as_) [] c s d v rest same bit ih = absurd (omega (arith, same))

pub sum-means : (as_ bs : List Lit) (c : Lit) → Means (sum_of as_ bs c) (λ v row. length as_ ≡ length bs → IsSum as_ bs c v row)
unfolding sum_of
sum-means [] [] c = give-means [] _ (λ v h. (refl, (number_of (lit_value v c), omega arith)))
sum-means [] (b ∷ bs) c = give-means [] _ (λ v h. absurd (omega arith))
sum-means (a ∷ as_) [] c = give-means [] _ (λ v h. absurd (omega arith))
sum-means (a ∷ as_) (b ∷ bs) c =
    then-means (sum_bit_of a b c (is_more as_ bs)) _ _ _ (sum_bit-means a b c (is_more as_ bs)) (λ bit.
    then-means (sum_of as_ bs bit.1) _ _ _ (sum-means as_ bs bit.1) (λ rest.
    give-means (bit.0 ∷ rest) _ (λ v ih is same. let shorter : length as_ ≡ length bs = omega arith in sum-next a b as_ bs c bit.0 bit.1 v rest shorter is (ih shorter))))

pub sum-grows : (as_ bs : List Lit) (c : Lit) (g : Circuit) → variable_count g ≤ variable_count (sum_of as_ bs c g).1
sum-grows as_ bs c g = grows-means (sum_of as_ bs c) _ (sum-means as_ bs c) g

-- the number of a row made bit by bit
abbrev pub bits_number : (Bool → Bool → Bool) → List Bool → List Lit → List Lit → ℕ
bits_number f v (a ∷ as_) (b ∷ bs) = number_of (f (lit_value v a) (lit_value v b)) + 2 * bits_number f v as_ bs
bits_number f v _ _ = 0

abbrev pub IsBits : BitOperation → List Lit → List Lit → List Bool → List Lit → Type 0
IsBits o as_ bs v row = (length row ≡ length as_) × (row_value v row ≡ bits_number (bit_value o v) v as_ bs)

pub bits-means : (o : BitOperation) (as_ bs : List Lit) → Means (bits_of o as_ bs) (λ v row. length as_ ≡ length bs → IsBits o as_ bs v row)
unfolding bits_of
bits-means o [] bs = give-means [] _ (λ v h. (refl, refl))
bits-means o (a ∷ as_) [] = give-means [] _ (λ v h. absurd (omega arith))
bits-means o (a ∷ as_) (b ∷ bs) =
    then-means (bit_of o a b) _ _ _ (bit-means o a b) (λ l.
    then-means (bits_of o as_ bs) _ _ _ (bits-means o as_ bs) (λ rest.
    give-means (l ∷ rest) _ (λ v ih is same.
    let shorter : length as_ ≡ length bs = omega arith in
    let w = ih shorter in
    (ap suc w.0, ap (λ x. number_of x + 2 * row_value v rest) is ∙ ap (λ n. number_of (bit_value o v (lit_value v a) (lit_value v b)) + 2 * n) w.1))))

pub bits-grows : (o : BitOperation) (as_ bs : List Lit) (g : Circuit) → variable_count g ≤ variable_count (bits_of o as_ bs g).1
bits-grows o as_ bs g = grows-means (bits_of o as_ bs) _ (bits-means o as_ bs) g

-- a test of two numbers, with what the bits before it gave
abbrev pub test_number : Test → ℕ → ℕ → Bool → Bool
test_number Equal m n e = e && nat_eq m n
test_number AtLeast m n c = nat_lt n (m + number_of c)

test_number-next : (t : Test) (x y c : Bool) (m n : ℕ) → test_number t m n (test_bit_value t x y c) ≡ test_number t (number_of x + 2 * m) (number_of y + 2 * n) c
test_number-next Equal true true true m n = grind (arith, nat_tests)
test_number-next Equal true false true m n = grind (arith, nat_tests)
test_number-next Equal false true true m n = grind (arith, nat_tests)
test_number-next Equal false false true m n = grind (arith, nat_tests)
test_number-next Equal x y false m n = refl
test_number-next AtLeast true true true m n = grind (arith, nat_tests)
test_number-next AtLeast true false true m n = grind (arith, nat_tests)
test_number-next AtLeast false true true m n = grind (arith, nat_tests)
test_number-next AtLeast false false true m n = grind (arith, nat_tests)
test_number-next AtLeast true true false m n = grind (arith, nat_tests)
test_number-next AtLeast true false false m n = grind (arith, nat_tests)
test_number-next AtLeast false true false m n = grind (arith, nat_tests)
test_number-next AtLeast false false false m n = grind (arith, nat_tests)

test_number-start : (t : Test) (c : Bool) → c ≡ test_number t 0 0 c
test_number-start Equal true = refl
test_number-start Equal false = refl
test_number-start AtLeast true = refl
test_number-start AtLeast false = refl

pub test-means : (t : Test) (as_ bs : List Lit) (c : Lit) → Means (test_of t as_ bs c) (λ v l. length as_ ≡ length bs → lit_value v l ≡ test_number t (row_value v as_) (row_value v bs) (lit_value v c))
unfolding test_of
test-means t [] [] c = give-means c _ (λ v h. test_number-start t (lit_value v c))
test-means t [] (b ∷ bs) c = give-means c _ (λ v h. absurd (omega arith))
test-means t (a ∷ as_) [] c = give-means c _ (λ v h. absurd (omega arith))
test-means t (a ∷ as_) (b ∷ bs) c =
    then-means (test_bit_of t a b c) _ _ _ (test_bit-means t a b c) (λ d.
    weaker-means (test_of t as_ bs d) _ _ (λ v l ih is same.
    ih (omega arith) ∙ ap (test_number t (row_value v as_) (row_value v bs)) is ∙ test_number-next t (lit_value v a) (lit_value v b) (lit_value v c) (row_value v as_) (row_value v bs)) (test-means t as_ bs d))

pub test-grows : (t : Test) (as_ bs : List Lit) (c : Lit) (g : Circuit) → variable_count g ≤ variable_count (test_of t as_ bs c g).1
test-grows t as_ bs c g = grows-means (test_of t as_ bs c) _ (test-means t as_ bs c) g
