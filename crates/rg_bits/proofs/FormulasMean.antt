-- what expressions and formulas mean
use Rattle.std.proofs.Common.{◌≡◌, ℕ, ◌+◌, ◌^◌, ◌<◌, Bool, true, false, not, cond, nat_lt, List, [], length, get_or, refl, sym, ap, ◌∙◌, arith, subst}
use Rattle.std.proofs.lemmas.Bool.Decides.{nat_tests}
use Rattle.rg_gates.specs.declared.Lit.{Lit}
use Rattle.rg_gates.specs.declared.Lit.TheVariants.{True, False}
use Rattle.rg_gates.specs.Circuit.{Circuit, variable_count, lit_value}
use Rattle.rg_gates.specs.Circuit as circuit
use Rattle.rg_words.specs.declared.operators.Operator.{Operator}
use Rattle.rg_words.specs.declared.operators.Operator.TheVariants.{Add, Subtract, BitAnd, BitOr, BitXor}
use Rattle.rg_words.specs.declared.operators.Shift.{Shift}
use Rattle.rg_words.specs.declared.operators.Shift.TheVariants.{Left, Right}
use Rattle.rg_words.specs.declared.operators.Comparison.{Comparison}
use Rattle.rg_words.specs.declared.operators.Comparison.TheVariants.{Equal, NotEqual, Less, LessOrEqual, Greater, GreaterOrEqual}
use Rattle.rg_words.specs.declared.operators.Connective.{Connective}
use Rattle.rg_words.specs.declared.operators.Connective.TheVariants.{And, Or, Implies, Iff}
use Rattle.rg_tree.specs.Trees.{Expression, Proposition, number, word, next_word, inverse, binary, shifted, choice, truth, negation, connected, compared}
use Rattle.rg_tree.specs.Meaning.{operated, moved, is_so, joined, value_of, holds}
use Rattle.rg_tree.specs.Typing.{HasWidth, IsTyped}
use Rattle.rg_rows.specs.declared.rows.BitOperation.TheVariants as bit
use Rattle.rg_rows.specs.declared.rows.Test.TheVariants as test
use Rattle.rg_rows.specs.Rows.{row_value, sum_of, bits_of, test_of, inverted, number_row}
use Rattle.rg_bits.specs.Formulas.{operated_of, moved_row, less_of, compared_of, connected_of, row_of, literal_of}
use Rattle.rg_bits.proofs.StandFor.{StandFor}
use Rattle.rg_rows.proofs.Means.{Means, give-means, then-means, weaker-means}
use Rattle.rg_rows.proofs.LiteralsMean.{negation_value, IsValue, and-means, or-means, implies-means, iff-means}
use Rattle.rg_rows.proofs.RowsMean.{sum-means, bits-means, test-means}
use Rattle.rg_bits.proofs.Numbers.{sum_value, difference_value, and_number, or_number, xor_number, pick_number, inverted_value, length-inverted, number_row_value, length-number_row, shifted_left_value, length-shifted_left, shifted_right_value, length-shifted_right}

-- a row of this width that stands for this number
abbrev pub IsNumber : ℕ → ℕ → List Bool → List Lit → Type 0
IsNumber w n v row = (length row ≡ w) × (row_value v row ≡ n)

pub operated-means : (o : Operator) (p q : List Lit) → Means (operated_of o p q) (λ v row. length p ≡ length q → IsNumber (length p) (operated o (length p) (row_value v p) (row_value v q)) v row)
unfolding operated_of
operated-means Add p q = weaker-means (sum_of p q False) _ _ (λ v row h same. ((h same).0, sum_value v p q row same (h same))) (sum-means p q False)
operated-means Subtract p q = weaker-means (sum_of p (inverted q) True) _ _ (λ v row h same. let e = same ∙ sym (length-inverted q) in ((h e).0, difference_value v p q row same (h e))) (sum-means p (inverted q) True)
operated-means BitAnd p q = weaker-means (bits_of bit.And p q) _ _ (λ v row h same. ((h same).0, (h same).1 ∙ and_number v p q same)) (bits-means bit.And p q)
operated-means BitOr p q = weaker-means (bits_of bit.Or p q) _ _ (λ v row h same. ((h same).0, (h same).1 ∙ or_number v p q same)) (bits-means bit.Or p q)
operated-means BitXor p q = weaker-means (bits_of bit.Xor p q) _ _ (λ v row h same. ((h same).0, (h same).1 ∙ xor_number v p q same)) (bits-means bit.Xor p q)

moved_is : (d : Shift) (k : ℕ) (v : List Bool) (p : List Lit) → IsNumber (length p) (moved d (length p) (row_value v p) k) v (moved_row d k p)
moved_is Left k v p = (length-shifted_left k p, shifted_left_value v k p)
moved_is Right k v p = (length-shifted_right k p, shifted_right_value v k p)

at_least_is : (m n : ℕ) → not (nat_lt n (m + 1)) ≡ nat_lt m n
at_least_is m n = grind (arith, nat_tests)

pub less-means : (p q : List Lit) → Means (less_of p q) (λ v l. length p ≡ length q → lit_value v l ≡ nat_lt (row_value v p) (row_value v q))
unfolding less_of
less-means p q = then-means (test_of test.AtLeast p q True) _ _ _ (test-means test.AtLeast p q True) (λ c. give-means (circuit.negation c) _ (λ v h same.
    negation_value v c ∙ ap not (h same) ∙ at_least_is (row_value v p) (row_value v q)))

pub compared-means : (c : Comparison) (p q : List Lit) → Means (compared_of c p q) (λ v l. length p ≡ length q → lit_value v l ≡ is_so c (row_value v p) (row_value v q))
unfolding compared_of
compared-means Equal p q = test-means test.Equal p q True
compared-means NotEqual p q = then-means (test_of test.Equal p q True) _ _ _ (test-means test.Equal p q True) (λ l. give-means (circuit.negation l) _ (λ v h same. negation_value v l ∙ ap not (h same)))
compared-means Less p q = less-means p q
compared-means LessOrEqual p q = then-means (less_of q p) _ _ _ (less-means q p) (λ l. give-means (circuit.negation l) _ (λ v h same. negation_value v l ∙ ap not (h (sym same))))
compared-means Greater p q = weaker-means (less_of q p) _ _ (λ v l h same. h (sym same)) (less-means q p)
compared-means GreaterOrEqual p q = then-means (less_of p q) _ _ _ (less-means p q) (λ l. give-means (circuit.negation l) _ (λ v h same. negation_value v l ∙ ap not (h same)))

pub connected-means : (c : Connective) (p q : Lit) → Means (connected_of c p q) (IsValue (λ v. joined c (lit_value v p) (lit_value v q)))
unfolding connected_of
connected-means And p q = and-means p q
connected-means Or p q = or-means p q
connected-means Implies p q = implies-means p q
connected-means Iff p q = iff-means p q

constant_value : (v : List Bool) (b : Bool) → lit_value v (cond b True False) ≡ b
constant_value v true = refl
constant_value v false = refl

-- wherever the rows stand for the states, the row stands for the value
abbrev pub MeansValue : Expression → List (List Lit) → List (List Lit) → List Bool → List Lit → Type 0
MeansValue e s t v row = (widths first second : List ℕ) (w : ℕ) → StandFor v widths s first → StandFor v widths t second → HasWidth widths e w → IsNumber w (value_of e first second) v row

abbrev pub MeansTruth : Proposition → List (List Lit) → List (List Lit) → List Bool → Lit → Type 0
MeansTruth f s t v l = (widths first second : List ℕ) → StandFor v widths s first → StandFor v widths t second → IsTyped widths f → lit_value v l ≡ holds f first second

mutual
  unfolding row_of literal_of

  pub row-means : (e : Expression) (s t : List (List Lit)) → Means (row_of e s t) (MeansValue e s t)
  row-means (number u n) s t = give-means (number_row u n) _ (λ v widths first second w one two typed.
      let P : ℕ → Type 0 = λ x. n < 2 ^ x in
      (length-number_row u n ∙ typed.0, number_row_value v u n (subst P (sym typed.0) typed.1)))
  row-means (word k) s t = give-means (get_or s k []) _ (λ v widths first second w one two typed. (one.width k typed.0 ∙ typed.1, one.value k typed.0))
  row-means (next_word k) s t = give-means (get_or t k []) _ (λ v widths first second w one two typed. (two.width k typed.0 ∙ typed.1, two.value k typed.0))
  row-means (inverse u a) s t = then-means (row_of a s t) _ _ _ (row-means a s t) (λ p. give-means (inverted p) _ (λ v ih widths first second w one two typed.
      let h = ih widths first second w one two typed.1 in
      let x = value_of a first second in
      let e = inverted_value v p in
      let size : 2 ^ length p ≡ 2 ^ u = ap (λ n. 2 ^ n) (h.0 ∙ sym typed.0) in
      let same : row_value v p ≡ x = h.1 in
      (length-inverted p ∙ h.0, omega (arith, e, size, same))))
  row-means (binary o u a b) s t =
      then-means (row_of a s t) _ _ _ (row-means a s t) (λ p.
      then-means (row_of b s t) _ _ _ (row-means b s t) (λ q.
      weaker-means (operated_of o p q) _ _ (λ v row is right left widths first second w one two typed.
      let f = left widths first second w one two typed.1 in
      let g = right widths first second w one two typed.2 in
      let r = is (f.0 ∙ sym g.0) in (
        r.0 ∙ f.0,
        r.1 ∙ ap (λ n. operated o n (row_value v p) (row_value v q)) (f.0 ∙ sym typed.0) ∙ ap (λ x. operated o u x (row_value v q)) f.1 ∙ ap (λ y. operated o u (value_of a first second) y) g.1,
      ))
      (operated-means o p q)))
  row-means (shifted d u a k) s t = then-means (row_of a s t) _ _ _ (row-means a s t) (λ p. give-means (moved_row d k p) _ (λ v ih widths first second w one two typed.
      let h = ih widths first second w one two typed.1 in
      let r = moved_is d k v p in
      (r.0 ∙ h.0, r.1 ∙ ap (λ n. moved d n (row_value v p) k) (h.0 ∙ sym typed.0) ∙ ap (λ x. moved d u x k) h.1)))
  row-means (choice f a b) s t =
      then-means (literal_of f s t) _ _ _ (literal-means f s t) (λ c.
      then-means (row_of a s t) _ _ _ (row-means a s t) (λ p.
      then-means (row_of b s t) _ _ _ (row-means b s t) (λ q.
      weaker-means (bits_of (bit.Pick c) p q) _ _ (λ v row is right left test widths first second w one two typed.
      let t0 = test widths first second one two typed.0 in
      let x0 = left widths first second w one two typed.1 in
      let y0 = right widths first second w one two typed.2 in
      let same = x0.0 ∙ sym y0.0 in
      let r = is same in (
        r.0 ∙ x0.0,
        r.1 ∙ pick_number c v p q same ∙ ap (λ z. cond z (row_value v p) (row_value v q)) t0 ∙ ap (λ x. cond (holds f first second) x (row_value v q)) x0.1 ∙ ap (λ y. cond (holds f first second) (value_of a first second) y) y0.1,
      ))
      (bits-means (bit.Pick c) p q))))

  pub literal-means : (f : Proposition) (s t : List (List Lit)) → Means (literal_of f s t) (MeansTruth f s t)
  literal-means (truth b) s t = give-means (cond b True False) _ (λ v widths first second one two typed. constant_value v b)
  literal-means (negation f) s t = then-means (literal_of f s t) _ _ _ (literal-means f s t) (λ l. give-means (circuit.negation l) _ (λ v ih widths first second one two typed.
      negation_value v l ∙ ap not (ih widths first second one two typed)))
  literal-means (connected c f g) s t =
      then-means (literal_of f s t) _ _ _ (literal-means f s t) (λ p.
      then-means (literal_of g s t) _ _ _ (literal-means g s t) (λ q.
      weaker-means (connected_of c p q) _ _ (λ v l is right left widths first second one two typed.
      is ∙ ap (λ x. joined c x (lit_value v q)) (left widths first second one two typed.0) ∙ ap (λ y. joined c (holds f first second) y) (right widths first second one two typed.1))
      (connected-means c p q)))
  literal-means (compared c a b) s t =
      then-means (row_of a s t) _ _ _ (row-means a s t) (λ p.
      then-means (row_of b s t) _ _ _ (row-means b s t) (λ q.
      weaker-means (compared_of c p q) _ _ (λ v l is right left widths first second one two typed.
      let f = left widths first second typed.0 one two typed.1 in
      let g = right widths first second typed.0 one two typed.2 in
      is (f.0 ∙ sym g.0) ∙ ap (λ x. is_so c x (row_value v q)) f.1 ∙ ap (λ y. is_so c (value_of a first second) y) g.1)
      (compared-means c p q)))
