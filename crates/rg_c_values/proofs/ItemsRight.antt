-- Choices that are items of arrays: what they choose.
use Rattle.std.proofs.Common.{◌≡◌, ◌≢◌, ◌∙◌, ℕ, zero, suc, ◌+◌, ◌<◌, ◌≤◌, ◌^◌, Bool, true, false, ◌&&◌, cond, nat_eq, List, [], ◌∷◌, length, Option, Some, None, inl, inr, refl, ap, sym, subst, arith}
use Rattle.std.specs.Prelude.{nat_lt, nat_le, slice_index, if◌then◌else◌}
use Rattle.std.specs.List.{list_all, range_with_len}
use Rattle.std.specs.Option.{option_map_or}
use Rattle.std.proofs.lemmas.Bool.{and_parts, eqb-true, cases_eq, cases_lt}
use Rattle.std.proofs.lemmas.Bool.Decides.{nat_tests}
use Rattle.std.proofs.lemmas.Nat.{and_le_r, mod_below}
use Rattle.std.proofs.lemmas.List.{length-map}
use Rattle.std.proofs.Math.Nat.{mod-le}
use Rattle.rg_words.specs.declared.operators.Operator.{Operator}
use Rattle.rg_words.specs.declared.operators.Operator.TheVariants.{Add, Subtract, BitAnd, BitOr, BitXor}
use Rattle.rg_words.specs.declared.operators.Comparison.{Comparison}
use Rattle.rg_words.specs.declared.operators.Comparison.TheVariants.{Equal, NotEqual, Less, LessOrEqual, Greater, GreaterOrEqual}
use Rattle.rg_words.specs.Layout.{Word, widths_of, IsLayout}
use Rattle.rg_words.specs.States.{AreValues, IsState}
use Rattle.rg_words.proofs.Values.{length-AreValues, AreValues-at}
use Rattle.rg_c_values.specs.declared.print.Read.{Read}
use Rattle.rg_c_values.specs.declared.print.Read.TheVariants.{Plain, Load, Local}
use Rattle.rg_c_values.specs.CTrees.{CValue, CTest, c_literal, c_word, c_cast, c_inverse, c_binary, c_rest, c_shifted, c_choice, c_truth, c_not, c_joined, c_compared}
use Rattle.rg_c_values.specs.Arithmetic.{c_value, c_holds, c_operated}
use Rattle.rg_c_values.specs.Arrays.{array_length}
use Rattle.rg_c_values.specs.Items.{is_operator, is_value, word_in, with_word, is_with_word, is_at, chooses, is_number_below, is_below, read_of, is_read_alike, are_read_alike, is_item_at, item_in, ItemsAreRight}

pub lt_from : (a b : ℕ) → nat_lt a b ≡ true → a < b
lt_from a b h = grind (arith, nat_tests)

le_from : (a b : ℕ) → nat_le a b ≡ true → a ≤ b
le_from a b h = grind (arith, nat_tests)

same_operator : (o p : Operator) → is_operator o p ≡ true → o ≡ p
same_operator Add Add h = refl
same_operator Add Subtract h = cc h
same_operator Add BitAnd h = cc h
same_operator Add BitOr h = cc h
same_operator Add BitXor h = cc h
same_operator Subtract Add h = cc h
same_operator Subtract Subtract h = refl
same_operator Subtract BitAnd h = cc h
same_operator Subtract BitOr h = cc h
same_operator Subtract BitXor h = cc h
same_operator BitAnd Add h = cc h
same_operator BitAnd Subtract h = cc h
same_operator BitAnd BitAnd h = refl
same_operator BitAnd BitOr h = cc h
same_operator BitAnd BitXor h = cc h
same_operator BitOr Add h = cc h
same_operator BitOr Subtract h = cc h
same_operator BitOr BitAnd h = cc h
same_operator BitOr BitOr h = refl
same_operator BitOr BitXor h = cc h
same_operator BitXor Add h = cc h
same_operator BitXor Subtract h = cc h
same_operator BitXor BitAnd h = cc h
same_operator BitXor BitOr h = cc h
same_operator BitXor BitXor h = refl

-- what passes for the same value is the same
pub same_value : (v u : CValue) → is_value v u ≡ true → v ≡ u
same_value (c_literal n) (c_literal m) q = ap (λ i. c_literal i) (eqb-true n m q)
same_value (c_literal n) (c_word d j) q = cc q
same_value (c_literal n) (c_cast m u) q = cc q
same_value (c_literal n) (c_inverse h u) q = cc q
same_value (c_literal n) (c_binary p h y z) q = cc q
same_value (c_literal n) (c_rest h u m) q = cc q
same_value (c_literal n) (c_shifted e h u j) q = cc q
same_value (c_literal n) (c_choice f y z) q = cc q
same_value (c_word c k) (c_literal m) q = cc q
same_value (c_word c k) (c_word d j) q =
    let parts = and_parts (nat_eq c d) (nat_eq k j) q in
    ap (λ i. c_word i k) (eqb-true c d parts.0) ∙ ap (λ i. c_word d i) (eqb-true k j parts.1)
same_value (c_word c k) (c_cast m u) q = cc q
same_value (c_word c k) (c_inverse h u) q = cc q
same_value (c_word c k) (c_binary p h y z) q = cc q
same_value (c_word c k) (c_rest h u m) q = cc q
same_value (c_word c k) (c_shifted e h u j) q = cc q
same_value (c_word c k) (c_choice f y z) q = cc q
same_value (c_cast n v) (c_literal m) q = cc q
same_value (c_cast n v) (c_word d j) q = cc q
same_value (c_cast n v) (c_cast m u) q =
    let parts = and_parts (nat_eq n m) (is_value v u) q in
    ap (λ i. c_cast i v) (eqb-true n m parts.0) ∙ ap (λ x. c_cast m x) (same_value v u parts.1)
same_value (c_cast n v) (c_inverse h u) q = cc q
same_value (c_cast n v) (c_binary p h y z) q = cc q
same_value (c_cast n v) (c_rest h u m) q = cc q
same_value (c_cast n v) (c_shifted e h u j) q = cc q
same_value (c_cast n v) (c_choice f y z) q = cc q
same_value (c_inverse g v) w q = cc q
same_value (c_binary o g a b) (c_literal m) q = cc q
same_value (c_binary o g a b) (c_word d j) q = cc q
same_value (c_binary o g a b) (c_cast m u) q = cc q
same_value (c_binary o g a b) (c_inverse h u) q = cc q
same_value (c_binary o g a b) (c_binary p h y z) q =
    let parts = and_parts (is_operator o p && nat_eq g h) (is_value a y && is_value b z) q in
    let heads = and_parts (is_operator o p) (nat_eq g h) parts.0 in
    let sides = and_parts (is_value a y) (is_value b z) parts.1 in
    ap (λ x. c_binary x g a b) (same_operator o p heads.0) ∙ ap (λ i. c_binary p i a b) (eqb-true g h heads.1)
    ∙ ap (λ x. c_binary p h x b) (same_value a y sides.0) ∙ ap (λ x. c_binary p h y x) (same_value b z sides.1)
same_value (c_binary o g a b) (c_rest h u m) q = cc q
same_value (c_binary o g a b) (c_shifted e h u j) q = cc q
same_value (c_binary o g a b) (c_choice f y z) q = cc q
same_value (c_rest g v n) (c_literal m) q = cc q
same_value (c_rest g v n) (c_word d j) q = cc q
same_value (c_rest g v n) (c_cast m u) q = cc q
same_value (c_rest g v n) (c_inverse h u) q = cc q
same_value (c_rest g v n) (c_binary p h y z) q = cc q
same_value (c_rest g v n) (c_rest h u m) q =
    let parts = and_parts (nat_eq g h && nat_eq n m) (is_value v u) q in
    let heads = and_parts (nat_eq g h) (nat_eq n m) parts.0 in
    ap (λ i. c_rest i v n) (eqb-true g h heads.0) ∙ ap (λ x. c_rest h x n) (same_value v u parts.1) ∙ ap (λ i. c_rest h u i) (eqb-true n m heads.1)
same_value (c_rest g v n) (c_shifted e h u j) q = cc q
same_value (c_rest g v n) (c_choice f y z) q = cc q
same_value (c_shifted d g v k) w q = cc q
same_value (c_choice t a b) w q = cc q

-- what passes for a value of another word is that
with_word_is : (j : ℕ) (v u : CValue) → is_with_word j v u ≡ true → u ≡ with_word j v
with_word_is j (c_literal n) w q = cc q
with_word_is j (c_word c k) (c_literal m) q = cc q
with_word_is j (c_word c k) (c_word d i) q =
    let parts = and_parts (nat_eq c d) (nat_eq i j) q in
    ap (λ x. c_word x i) (sym (eqb-true c d parts.0)) ∙ ap (λ x. c_word c x) (eqb-true i j parts.1)
with_word_is j (c_word c k) (c_cast m u) q = cc q
with_word_is j (c_word c k) (c_inverse h u) q = cc q
with_word_is j (c_word c k) (c_binary p h y z) q = cc q
with_word_is j (c_word c k) (c_rest h u m) q = cc q
with_word_is j (c_word c k) (c_shifted e h u l) q = cc q
with_word_is j (c_word c k) (c_choice f y z) q = cc q
with_word_is j (c_cast n v) (c_literal m) q = cc q
with_word_is j (c_cast n v) (c_word d i) q = cc q
with_word_is j (c_cast n v) (c_cast m u) q =
    let parts = and_parts (nat_eq n m) (is_with_word j v u) q in
    ap (λ x. c_cast x u) (sym (eqb-true n m parts.0)) ∙ ap (λ x. c_cast n x) (with_word_is j v u parts.1)
with_word_is j (c_cast n v) (c_inverse h u) q = cc q
with_word_is j (c_cast n v) (c_binary p h y z) q = cc q
with_word_is j (c_cast n v) (c_rest h u m) q = cc q
with_word_is j (c_cast n v) (c_shifted e h u l) q = cc q
with_word_is j (c_cast n v) (c_choice f y z) q = cc q
with_word_is j (c_inverse g v) w q = cc q
with_word_is j (c_binary o g a b) w q = cc q
with_word_is j (c_rest g v n) w q = cc q
with_word_is j (c_shifted d g v k) w q = cc q
with_word_is j (c_choice t a b) w q = cc q

-- an index that is at a number is compared with it
pub at_is : (s : List ℕ) (e : CValue) (i : ℕ) (t : CTest) → is_at e i t ≡ true → c_holds t s ≡ nat_eq (c_value e s) i
at_is s e i (c_truth b) q = cc q
at_is s e i (c_not t) q = cc q
at_is s e i (c_joined j t u) q = cc q
at_is s e i (c_compared NotEqual a b) q = cc q
at_is s e i (c_compared Less a b) q = cc q
at_is s e i (c_compared LessOrEqual a b) q = cc q
at_is s e i (c_compared Greater a b) q = cc q
at_is s e i (c_compared GreaterOrEqual a b) q = cc q
at_is s e i (c_compared Equal a (c_literal n)) q =
    let parts = and_parts (is_value e a) (nat_eq i n) q in
    ap (λ x. nat_eq (c_value x s) n) (sym (same_value e a parts.0)) ∙ ap (nat_eq (c_value e s)) (sym (eqb-true i n parts.1))
at_is s e i (c_compared Equal a (c_word c k)) q = cc q
at_is s e i (c_compared Equal a (c_cast n v)) q = cc q
at_is s e i (c_compared Equal a (c_inverse g v)) q = cc q
at_is s e i (c_compared Equal a (c_binary o g v u)) q = cc q
at_is s e i (c_compared Equal a (c_rest g v n)) q = cc q
at_is s e i (c_compared Equal a (c_shifted d g v k)) q = cc q
at_is s e i (c_compared Equal a (c_choice t f b)) q = cc q

-- the last item is what is left
last_item : (s : List ℕ) (a : CValue) (k n i x : ℕ) (v : CValue) → (nat_eq (i + 1) n && is_with_word (k + i) a v) ≡ true → i ≤ x → x < n → c_value v s ≡ c_value (with_word (k + x) a) s
last_item s a k n i x v q from to =
    let parts = and_parts (nat_eq (i + 1) n) (is_with_word (k + i) a v) q in
    let end = eqb-true (i + 1) n parts.0 in
    let same : i ≡ x = omega (arith, from, to, end) in
    ap (λ w. c_value w s) (with_word_is (k + i) a v parts.1) ∙ ap (λ y. c_value (with_word (k + y) a) s) same

-- what is chosen among the items from the i-th one on is the one at the index
pub chosen : (s : List ℕ) (e a : CValue) (k n i x : ℕ) (v : CValue) → chooses e a k n i v ≡ true → c_value e s ≡ x → i ≤ x → x < n → c_value v s ≡ c_value (with_word (k + x) a) s
chosen s e a k n i x (c_choice t b c) q is from to =
    let parts = and_parts (nat_lt (i + 1) n && is_at e i t) (is_with_word (k + i) a b && chooses e a k n (i + 1) c) q in
    let test = and_parts (nat_lt (i + 1) n) (is_at e i t) parts.0 in
    let sides = and_parts (is_with_word (k + i) a b) (chooses e a k n (i + 1) c) parts.1 in
    let holds : c_holds t s ≡ nat_eq x i = at_is s e i t test.1 ∙ ap (λ y. nat_eq y i) is in
    elim (cases_eq x i) [
      | inl here ↦
          let yes : nat_eq x i ≡ true = grind (arith, nat_tests, here) in
          ap (λ p. cond p (c_value b s) (c_value c s)) (holds ∙ yes)
          ∙ ap (λ w. c_value w s) (with_word_is (k + i) a b sides.0) ∙ ap (λ y. c_value (with_word (k + y) a) s) (sym here)
      | inr further ↦
          let no : nat_eq x i ≡ false = grind (arith, nat_tests, further) in
          ap (λ p. cond p (c_value b s) (c_value c s)) (holds ∙ no)
          ∙ chosen s e a k n (i + 1) x c sides.1 is (after further) to
    ]
  where
    after : (x ≡ i → ⊥) → i + 1 ≤ x
    after ne = elim (cases_lt i x) [ inl l ↦ omega (arith, l) | inr g ↦ absurd (ne (omega (arith, g, from))) ]
chosen s e a k n i x (c_literal m) q is from to = last_item s a k n i x (c_literal m) q from to
chosen s e a k n i x (c_word c j) q is from to = last_item s a k n i x (c_word c j) q from to
chosen s e a k n i x (c_cast m v) q is from to = last_item s a k n i x (c_cast m v) q from to
chosen s e a k n i x (c_inverse g v) q is from to = last_item s a k n i x (c_inverse g v) q from to
chosen s e a k n i x (c_binary o g b c) q is from to = last_item s a k n i x (c_binary o g b c) q from to
chosen s e a k n i x (c_rest g v m) q is from to = last_item s a k n i x (c_rest g v m) q from to
chosen s e a k n i x (c_shifted d g v j) q is from to = last_item s a k n i x (c_shifted d g v j) q from to

-- a number that is seen to be below n
number_below : (s : List ℕ) (n : ℕ) (v : CValue) → is_number_below n v ≡ true → c_value v s < n
number_below s n (c_literal m) q = lt_from m n q
number_below s n (c_word c j) q = cc q
number_below s n (c_cast m v) q = cc q
number_below s n (c_inverse g v) q = cc q
number_below s n (c_binary o g b c) q = cc q
number_below s n (c_rest g v m) q = cc q
number_below s n (c_shifted d g v j) q = cc q
number_below s n (c_choice t a b) q = cc q

-- a value that is seen to be below n is
pub below : (words : List Word) (s : List ℕ) → IsState words s → (n : ℕ) (v : CValue) → is_below words n v ≡ true → c_value v s < n
below words s state n (c_literal m) q = cc q
below words s state n (c_word c k) q =
    let parts = and_parts (nat_lt k (length words)) (nat_le (2 ^ slice_index (widths_of words) k) n) q in
    let within = lt_from k (length words) parts.0 in
    let size = length-map words (λ w. w.width) in
    let same = length-AreValues (widths_of words) s state in
    let at = AreValues-at (widths_of words) s k state (omega (arith, within, size, same)) in
    let most = le_from (2 ^ slice_index (widths_of words) k) n parts.1 in
    omega (arith, at, most)
below words s state n (c_cast g v) q =
    let rest = below words s state n v q in
    let less = mod-le (c_value v s) (2 ^ g) in
    omega (arith, rest, less)
below words s state n (c_inverse g v) q = cc q
below words s state n (c_binary Add g v u) q = cc q
below words s state n (c_binary Subtract g v u) q = cc q
below words s state n (c_binary BitAnd g v u) q =
    let most = and_le_r (c_value v s) (c_value u s) in
    let less = number_below s n u q in
    omega (arith, most, less)
below words s state n (c_binary BitOr g v u) q = cc q
below words s state n (c_binary BitXor g v u) q = cc q
below words s state n (c_rest g v m) q =
    let parts = and_parts (nat_lt 0 m) (nat_le m n) q in
    let less = mod_below (c_value v s) m (lt_from 0 m parts.0) in
    let most = le_from m n parts.1 in
    omega (arith, less, most)
below words s state n (c_shifted d g v k) q = cc q
below words s state n (c_choice t a b) q = cc q

-- what passes at all places passes at each
pub all_at : (p : ℕ → Bool) (a n : ℕ) → list_all p (range_with_len a n) ≡ true → (k : ℕ) → a ≤ k → k < a + n → p k ≡ true
all_at p a zero h k from to = absurd (omega (arith, from, to))
all_at p a (suc n) h k from to =
    let parts = and_parts (p a) (list_all p (range_with_len (a + 1) n)) h in
    elim (cases_eq a k) [
      | inl e ↦ subst (λ j. p j ≡ true) e parts.0
      | inr ne ↦ all_at p (a + 1) n parts.1 k (after ne) (omega (arith, to))
    ]
  where
    after : (a ≡ k → ⊥) → a + 1 ≤ k
    after ne = elim (cases_lt a k) [ inl l ↦ omega (arith, l) | inr g ↦ absurd (ne (omega (arith, g, from))) ]

alike : (r t : Read) → is_read_alike r t ≡ true → t ≡ r
alike Plain Plain q = refl
alike Plain Load q = cc q
alike Plain Local q = cc q
alike Load Plain q = cc q
alike Load Load q = refl
alike Load Local q = cc q
alike Local Plain q = cc q
alike Local Load q = cc q
alike Local Local q = cc q

-- what an item at an index is
item_is : (words : List Word) (s : List ℕ) → IsState words s → (reads : List Read) (e a : CValue) (k : ℕ) (v : CValue) → is_item_at words reads e a k v ≡ true →
    (c_value e s < array_length words k) × (c_value v s ≡ c_value (with_word (k + c_value e s) a) s) × (read_of reads (k + c_value e s) ≡ read_of reads k)
item_is words s state reads e a k v q =
    let n = array_length words k in
    let parts = and_parts (nat_lt 1 n && are_read_alike reads k n) (is_below words n e && chooses e a k n 0 v) q in
    let reads_alike = and_parts (nat_lt 1 n) (are_read_alike reads k n) parts.0 in
    let sides = and_parts (is_below words n e) (chooses e a k n 0 v) parts.1 in
    let within = below words s state n e sides.0 in
    let value = chosen s e a k n 0 (c_value e s) v sides.1 refl (omega arith) within in
    let read = all_at (λ i. is_read_alike (read_of reads k) (read_of reads (k + i))) 0 n reads_alike.1 (c_value e s) (omega arith) (omega (arith, within)) in
    (within, value, alike (read_of reads k) (read_of reads (k + c_value e s)) read)

where_true : (b : Bool) (j k : ℕ) → (if b then Some j else None) ≡ Some k → (b ≡ true) × (j ≡ k)
where_true true j k h = (refl, ap (λ o. option_map_or (λ i. i) o 0) h)
where_true false j k h = cc h

pub items_are_right : ItemsAreRight
items_are_right words s layout state reads c e u a b k h = by (word_in a) h
  where
    v : CValue
    v = c_choice (c_compared c e u) a b

    test : ℕ → Bool
    test j = nat_lt j (length words) && is_item_at words reads e a j v

    by : (o : Option ℕ) → option_map_or (λ j. if test j then Some j else None) o None ≡ Some k →
        (c_value e s < array_length words k) × (c_value v s ≡ c_value (with_word (k + c_value e s) a) s) × (read_of reads (k + c_value e s) ≡ read_of reads k)
    by None q = cc q
    by (Some j) q =
        let found = where_true (test j) j k q in
        let is = (and_parts (nat_lt j (length words)) (is_item_at words reads e a j v) found.0).1 in
        item_is words s state reads e a k v (subst (λ i. is_item_at words reads e a i v ≡ true) found.1 is)
