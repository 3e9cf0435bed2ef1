-- Simplified trees have the width and the meaning of the trees.
use Rattle.std.proofs.Common.{◌≡◌, inl, inr, ℕ, ◌-◌, ◌^◌, ◌<◌, ◌≤◌, Bool, true, false, not, cond, nat_eq, nat_lt, List, Some, None, refl, sym, ap, ◌∙◌, subst, arith}
use Rattle.std.specs.Prelude.{◌⊎◌, ◌||◌, nat_le, Option, slice_index}
use Rattle.std.proofs.lemmas.Bool.{cond_both, eqb-true, leb-true, le-ltb, eq-eqb, ne_eqb, cases_eq, or_cases}
use Rattle.std.proofs.lemmas.Nat.{pow_pos, and_le_l, and_le_r}
use Rattle.rg_words.specs.States.{AreValues}
use Rattle.rg_words.specs.declared.operators.Operator.{Operator}
use Rattle.rg_words.specs.declared.operators.Operator.TheVariants.{BitAnd}
use Rattle.rg_words.specs.declared.operators.Shift.{Shift}
use Rattle.rg_words.specs.declared.operators.Comparison.{Comparison}
use Rattle.rg_words.specs.declared.operators.Comparison.TheVariants.{Equal, NotEqual, Less, LessOrEqual, Greater, GreaterOrEqual}
use Rattle.rg_tree.specs.Trees.{Expression, Proposition, number, word, next_word, inverse, binary, shifted, choice, truth, negation, connected, compared}
use Rattle.rg_tree.specs.Meaning.{operated, moved, is_so, joined, value_of, holds}
use Rattle.rg_tree.specs.Typing.{HasWidth, IsTyped}
use Rattle.rg_tree.proofs.Widths.{values_within}
use Rattle.rg_c_values.specs.Simplified.{top, erases, simple_inverse, simple_binary, simple_shift, simple_choice, turned, decided_by_number, decided, known_or, simplified, simplified_test}
use Rattle.rg_c_values.proofs.Limits.{AreWithin, width_within}
use Rattle.rg_c_values.proofs.Numbers.{operated_below, moved_below, all_moved}

-- along an equation of widths
at_width : (n v w : ℕ) → v ≡ w → n < 2 ^ v → n < 2 ^ w
at_width n v w e h = let P : ℕ → Type 0 = λ x. n < 2 ^ x in subst P e h

inverse_width : (widths : List ℕ) (v : ℕ) (a : Expression) (w : ℕ) → v ≡ w → HasWidth widths a w → w ≤ 64 → HasWidth widths (simple_inverse v a) w
inverse_width widths v (number u n) w e h limit =
    let below : top v - n < 2 ^ v = omega (arith, pow_pos v) in
    (e, at_width (top v - n) v w e below, limit)
inverse_width widths v (word k) w e h limit = (e, h)
inverse_width widths v (next_word k) w e h limit = (e, h)
inverse_width widths v (inverse u a) w e h limit = (e, h)
inverse_width widths v (binary o u a b) w e h limit = (e, h)
inverse_width widths v (shifted d u a k) w e h limit = (e, h)
inverse_width widths v (choice f a b) w e h limit = (e, h)

binary_width : (widths : List ℕ) (o : Operator) (v : ℕ) (a b : Expression) (w : ℕ) → v ≡ w → HasWidth widths a w → HasWidth widths b w → w ≤ 64 → HasWidth widths (simple_binary o v a b) w
binary_width widths o v (number t m) (number u n) w e h k limit =
    (e, at_width (operated o v m n) v w e (operated_below o v m n (at_width m w v (sym e) h.1) (at_width n w v (sym e) k.1)), limit)
binary_width widths o v a b w e h k limit =
    cond_both (erases o a || erases o b) (number v 0) (binary o v a b) (λ x. HasWidth widths x w) (λ _. (e, pow_pos w, limit)) (λ _. (e, h, k))

shift_width : (widths : List ℕ) (d : Shift) (v : ℕ) (a : Expression) (k w : ℕ) → v ≡ w → HasWidth widths a w → k ≤ 63 → w ≤ 64 → HasWidth widths (simple_shift d v a k) w
shift_width widths d v (number u n) k w e h count limit = (e, at_width (moved d v n k) v w e (moved_below d v n k (at_width n w v (sym e) h.1)), limit)
shift_width widths d v a k w e h count limit =
    cond_both (nat_le v k) (number v 0) (shifted d v a k) (λ x. HasWidth widths x w) (λ _. (e, pow_pos w, limit)) (λ _. (e, h, count))

choice_width : (widths : List ℕ) (f : Proposition) (a b : Expression) (w : ℕ) → IsTyped widths f → HasWidth widths a w → HasWidth widths b w → HasWidth widths (simple_choice f a b) w
choice_width widths (truth true) a b w t h k = h
choice_width widths (truth false) a b w t h k = k
choice_width widths f a b w t h k = (t, h, k)

known_typed : (widths : List ℕ) (o : Option Bool) (f : Proposition) → IsTyped widths f → IsTyped widths (known_or o f)
known_typed widths None f h = h
known_typed widths (Some b) f h = tt

module _ (widths : List ℕ) (limit : AreWithin widths) where
  mutual
    pub simple_width : (e : Expression) (w : ℕ) → HasWidth widths e w → HasWidth widths (simplified e) w
    simple_width (number v n) w h = h
    simple_width (word k) w h = h
    simple_width (next_word k) w h = h
    simple_width (inverse v a) w h = inverse_width widths v (simplified a) w h.0 (simple_width a w h.1) (width_within widths limit a w h.1)
    simple_width (binary o v a b) w h =
        binary_width widths o v (simplified a) (simplified b) w h.0 (simple_width a w h.1) (simple_width b w h.2) (width_within widths limit a w h.1)
    simple_width (shifted d v a k) w h = shift_width widths d v (simplified a) k w h.0 (simple_width a w h.1) h.2 (width_within widths limit a w h.1)
    simple_width (choice f a b) w h = choice_width widths (simplified_test f) (simplified a) (simplified b) w (simple_typed f h.0) (simple_width a w h.1) (simple_width b w h.2)

    pub simple_typed : (f : Proposition) → IsTyped widths f → IsTyped widths (simplified_test f)
    simple_typed (truth b) h = tt
    simple_typed (negation f) h = simple_typed f h
    simple_typed (connected c f g) h = (simple_typed f h.0, simple_typed g h.1)
    simple_typed (compared c a b) h =
        known_typed widths (decided c (simplified a) (simplified b)) (compared c (simplified a) (simplified b)) (h.0, simple_width a h.0 h.1, simple_width b h.0 h.2)

inverse_same : (v : ℕ) (a : Expression) (s : List ℕ) → value_of (simple_inverse v a) s s ≡ 2 ^ v - 1 - value_of a s s
inverse_same v (number u n) s = refl
inverse_same v a s = refl

erased_first : (o : Operator) (w : ℕ) (a : Expression) (y : ℕ) (s : List ℕ) → erases o a ≡ true → 0 ≡ operated o w (value_of a s s) y
erased_first BitAnd w (number v n) y s h = omega (arith, eqb-true n 0 h, and_le_l n y)
erased_first o w a y s h = absurd (cc)

erased_second : (o : Operator) (w x : ℕ) (b : Expression) (s : List ℕ) → erases o b ≡ true → 0 ≡ operated o w x (value_of b s s)
erased_second BitAnd w x (number v n) s h = omega (arith, eqb-true n 0 h, and_le_r x n)
erased_second o w x b s h = absurd (cc)

erased : (o : Operator) (w : ℕ) (a b : Expression) (s : List ℕ) → (erases o a ≡ true) ⊎ (erases o b ≡ true) → 0 ≡ operated o w (value_of a s s) (value_of b s s)
erased o w a b s (inl e) = erased_first o w a (value_of b s s) s e
erased o w a b s (inr e) = erased_second o w (value_of a s s) b s e

binary_same : (o : Operator) (v : ℕ) (a b : Expression) (s : List ℕ) → value_of (simple_binary o v a b) s s ≡ operated o v (value_of a s s) (value_of b s s)
binary_same o v (number t m) (number u n) s = refl
binary_same o v a b s =
    cond_both (erases o a || erases o b) (number v 0) (binary o v a b) (λ x. value_of x s s ≡ operated o v (value_of a s s) (value_of b s s))
    (λ e. erased o v a b s (or_cases (erases o a) (erases o b) e)) (λ _. refl)

shift_same : (d : Shift) (v : ℕ) (a : Expression) (k : ℕ) (s : List ℕ) → value_of a s s < 2 ^ v → value_of (simple_shift d v a k) s s ≡ moved d v (value_of a s s) k
shift_same d v (number u n) k s h = refl
shift_same d v a k s h =
    cond_both (nat_le v k) (number v 0) (shifted d v a k) (λ x. value_of x s s ≡ moved d v (value_of a s s) k)
    (λ e. sym (all_moved d v (value_of a s s) k (leb-true v k e) h)) (λ _. refl)

choice_same : (f : Proposition) (a b : Expression) (s : List ℕ) → value_of (simple_choice f a b) s s ≡ cond (holds f s s) (value_of a s s) (value_of b s s)
choice_same (truth true) a b s = refl
choice_same (truth false) a b s = refl
choice_same f a b s = refl

-- what is known of a truth is so
abbrev Agrees : Option Bool → Bool → Type 0
Agrees None r = Unit {0}
Agrees (Some b) r = b ≡ r

known_same : (o : Option Bool) (f : Proposition) (s : List ℕ) → Agrees o (holds f s s) → holds (known_or o f) s s ≡ holds f s s
known_same None f s a = refl
known_same (Some b) f s a = a

decided_number : (c : Comparison) (w n x : ℕ) → x < 2 ^ w → Agrees (decided_by_number c w n) (is_so c x n)
decided_number Equal w n x h = tt
decided_number NotEqual w n x h = tt
decided_number Less w n x h =
    cond_both (nat_eq n 0) (Some false) None (λ o. Agrees o (nat_lt x n)) (λ e. sym (le-ltb x n (omega (arith, eqb-true n 0 e)))) (λ e. tt)
decided_number LessOrEqual w n x h =
    cond_both (nat_eq n (top w)) (Some true) None (λ o. Agrees o (not (nat_lt n x))) (λ e. sym (ap not (le-ltb n x (omega (arith, eqb-true n (top w) e))))) (λ e. tt)
decided_number Greater w n x h =
    cond_both (nat_eq n (top w)) (Some false) None (λ o. Agrees o (nat_lt n x)) (λ e. sym (le-ltb n x (omega (arith, eqb-true n (top w) e)))) (λ e. tt)
decided_number GreaterOrEqual w n x h =
    cond_both (nat_eq n 0) (Some true) None (λ o. Agrees o (not (nat_lt x n))) (λ e. sym (ap not (le-ltb x n (omega (arith, eqb-true n 0 e))))) (λ e. tt)

same_turned : (x y : ℕ) → (x ≡ y) ⊎ (x ≡ y → ⊥) → nat_eq x y ≡ nat_eq y x
same_turned x y (inl e) = eq-eqb x y e ∙ sym (eq-eqb y x (sym e))
same_turned x y (inr n) = ne_eqb x y n ∙ sym (ne_eqb y x (λ e. n (sym e)))

-- a comparison with its sides exchanged
turned_is_so : (c : Comparison) (x y : ℕ) → is_so (turned c) y x ≡ is_so c x y
turned_is_so Equal x y = same_turned y x (cases_eq y x)
turned_is_so NotEqual x y = ap not (same_turned y x (cases_eq y x))
turned_is_so Less x y = refl
turned_is_so LessOrEqual x y = refl
turned_is_so Greater x y = refl
turned_is_so GreaterOrEqual x y = refl

-- a comparison of a number with itself
itself_is_so : (c : Comparison) (x : ℕ) → is_so c 0 0 ≡ is_so c x x
itself_is_so Equal x = sym (eq-eqb x x refl)
itself_is_so NotEqual x = ap not (sym (eq-eqb x x refl))
itself_is_so Less x = sym (le-ltb x x (omega arith))
itself_is_so LessOrEqual x = ap not (sym (le-ltb x x (omega arith)))
itself_is_so Greater x = sym (le-ltb x x (omega arith))
itself_is_so GreaterOrEqual x = ap not (sym (le-ltb x x (omega arith)))

first_decided : (widths : List ℕ) (c : Comparison) (v n : ℕ) (w y : ℕ) → v ≡ w → y < 2 ^ w → Agrees (decided_by_number (turned c) v n) (is_so c n y)
first_decided widths c v n w y e h =
    let P : Bool → Type 0 = λ r. Agrees (decided_by_number (turned c) v n) r in
    subst P (turned_is_so c n y) (decided_number (turned c) v n y (at_width y w v (sym e) h))

decided_same : (widths : List ℕ) (c : Comparison) (a b : Expression) (w : ℕ) (s : List ℕ) → HasWidth widths a w → HasWidth widths b w → value_of a s s < 2 ^ w → value_of b s s < 2 ^ w → Agrees (decided c a b) (is_so c (value_of a s s) (value_of b s s))
decided_same widths c (number v m) (number u n) w s h k below less = refl
decided_same widths c (word i) (word j) w s h k below less =
    cond_both (nat_eq i j) (Some (is_so c 0 0)) None (λ o. Agrees o (is_so c (slice_index s i) (slice_index s j)))
    (λ e. itself_is_so c (slice_index s i) ∙ ap (λ l. is_so c (slice_index s i) (slice_index s l)) (eqb-true i j e)) (λ _. tt)
decided_same widths c (number v n) b w s h k below less = first_decided widths c v n w (value_of b s s) h.0 less
decided_same widths c a (number v n) w s h k below less = decided_number c v n (value_of a s s) (at_width (value_of a s s) w v (sym k.0) below)
decided_same widths c a b w s h k below less = tt

module _ (widths s : List ℕ) (limit : AreWithin widths) (values : AreValues widths s) where
  within : (e : Expression) (w : ℕ) → HasWidth widths e w → value_of e s s < 2 ^ w
  within e w h = values_within widths s s e w h values values

  mutual
    pub simple_value : (e : Expression) (w : ℕ) → HasWidth widths e w → value_of (simplified e) s s ≡ value_of e s s
    simple_value (number v n) w h = refl
    simple_value (word k) w h = refl
    simple_value (next_word k) w h = refl
    simple_value (inverse v a) w h = inverse_same v (simplified a) s ∙ ap (λ x. 2 ^ v - 1 - x) (simple_value a w h.1)
    simple_value (binary o v a b) w h =
        binary_same o v (simplified a) (simplified b) s
        ∙ ap (λ x. operated o v x (value_of (simplified b) s s)) (simple_value a w h.1) ∙ ap (λ y. operated o v (value_of a s s) y) (simple_value b w h.2)
    simple_value (shifted d v a k) w h =
        shift_same d v (simplified a) k s (at_width _ w v (sym h.0) (within (simplified a) w (simple_width widths limit a w h.1)))
        ∙ ap (λ x. moved d v x k) (simple_value a w h.1)
    simple_value (choice f a b) w h =
        choice_same (simplified_test f) (simplified a) (simplified b) s
        ∙ ap (λ t. cond t (value_of (simplified a) s s) (value_of (simplified b) s s)) (simple_truth f h.0)
        ∙ ap (λ x. cond (holds f s s) x (value_of (simplified b) s s)) (simple_value a w h.1)
        ∙ ap (λ y. cond (holds f s s) (value_of a s s) y) (simple_value b w h.2)

    pub simple_truth : (f : Proposition) → IsTyped widths f → holds (simplified_test f) s s ≡ holds f s s
    simple_truth (truth b) h = refl
    simple_truth (negation f) h = ap not (simple_truth f h)
    simple_truth (connected c f g) h =
        ap (λ p. joined c p (holds (simplified_test g) s s)) (simple_truth f h.0) ∙ ap (λ q. joined c (holds f s s) q) (simple_truth g h.1)
    simple_truth (compared c a b) h =
        let w = h.0 in
        let first = simple_width widths limit a w h.1 in
        let second = simple_width widths limit b w h.2 in
        known_same (decided c (simplified a) (simplified b)) (compared c (simplified a) (simplified b)) s
        (decided_same widths c (simplified a) (simplified b) w s first second (within (simplified a) w first) (within (simplified b) w second))
        ∙ ap (λ x. is_so c x (value_of (simplified b) s s)) (simple_value a w h.1) ∙ ap (λ y. is_so c (value_of a s s) y) (simple_value b w h.2)
