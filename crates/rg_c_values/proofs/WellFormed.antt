-- The expressions are well formed in C.
use Rattle.std.proofs.Common.{◌≡◌, inl, inr, ℕ, ◌^◌, ◌<◌, ◌≤◌, Bool, true, false, not, cond, nat_eq, List, length, refl, sym, ap, subst, arith}
use Rattle.std.specs.Prelude.{nat_le, slice_index}
use Rattle.std.proofs.lemmas.Bool.{cond_both, leb-false, eqb-true, eqb-false}
use Rattle.std.proofs.lemmas.Nat.{pow_pos, pow_below}
use Rattle.rg_words.specs.Layout.{widths_of}
use Rattle.rg_words.specs.declared.operators.Operator.{Operator}
use Rattle.rg_words.specs.declared.operators.Operator.TheVariants.{Add, Subtract, BitAnd, BitOr, BitXor}
use Rattle.rg_words.specs.declared.operators.Shift.{Shift}
use Rattle.rg_words.specs.declared.operators.Shift.TheVariants.{Left, Right}
use Rattle.rg_words.specs.declared.operators.Connective.{Connective}
use Rattle.rg_words.specs.declared.operators.Connective.TheVariants.{And, Or, Implies, Iff}
use Rattle.rg_tree.specs.Trees.{Expression, Proposition, number, word, next_word, inverse, binary, shifted, choice, truth, negation, connected, compared}
use Rattle.rg_tree.specs.Typing.{HasWidth, IsTyped}
use Rattle.rg_c_values.specs.CTrees.{CValue, CTest, c_literal, c_word, c_cast, c_inverse, c_binary, c_rest, c_shifted, c_choice}
use Rattle.rg_c_values.specs.WellFormed.{c_bits, IsComputed, IsUnsigned, IsBeside, IsC, IsCTest}
use Rattle.rg_c_values.specs.Translation.{container, computed, masked_if, kept_word, read_word, beside, alone, is_top, operation_in_c, inverse_in_c, binary_in_c, shift_in_c, connected_in_c, translated, tested, stored}
use Rattle.rg_c_values.specs.Simplified.{simplified, simplified_test}
use Rattle.rg_c_values.specs.Laws.{ValuesAreC, TestsAreC, StoresAreC}
use Rattle.rg_c_values.proofs.Numbers.{below_power}
use Rattle.rg_c_values.proofs.PiecesMean.{within_computed}
use Rattle.rg_c_values.proofs.Limits.{AreWithin, are_within, width_within}
use Rattle.rg_c_values.proofs.Simple.{simple_width, simple_typed}
use Rattle.rg_c_values.proofs.Right.{within_container}

is_computed : (w : ℕ) → IsComputed (computed w)
is_computed w = cond_both (nat_le w 32) 32 64 IsComputed (λ e. inl refl) (λ e. inr refl)

container_is_unsigned : (w : ℕ) → IsUnsigned (container w)
container_is_unsigned w =
    cond_both (nat_le w 8) 8 (cond (nat_le w 16) 16 (cond (nat_le w 32) 32 64)) IsUnsigned (λ e. inl refl)
    (λ _. cond_both (nat_le w 16) 16 (cond (nat_le w 32) 32 64) IsUnsigned (λ e. inr (inl refl))
    (λ _. cond_both (nat_le w 32) 32 64 IsUnsigned (λ e. inr (inr (inl refl))) (λ _. inr (inr (inr refl)))))

computed_is_unsigned : (w : ℕ) → IsUnsigned (computed w)
computed_is_unsigned w = inr (inr (is_computed w))

computed_within : (w : ℕ) → computed w ≤ 64
computed_within w = cond_both (nat_le w 32) 32 64 (λ g. g ≤ 64) (λ e. omega arith) (λ e. omega arith)

-- a well-formed value of the unsigned type of g bits
record Of (widths : List ℕ) (g : ℕ) (v : CValue) : Type 0 where
  pub is_c : IsC widths v
  pub bits : c_bits v ≡ g

literal_below : (n w : ℕ) → n < 2 ^ w → w ≤ 64 → n < 2 ^ 64
literal_below n w h le = below_power n w 64 h le

beside_computed : (w n : ℕ) → w ≤ 64 → n < 2 ^ w → n < 2 ^ computed w
beside_computed w n limit h = below_power n w (computed w) h (within_computed w limit)

-- a width that isn't that of the type in which it is computed
narrower : (w : ℕ) → w ≤ 64 → nat_eq w (computed w) ≡ false → 2 ^ w < 2 ^ computed w
narrower w limit e =
    let other = eqb-false w (computed w) e in
    let less : w < computed w = omega (arith, within_computed w limit, other) in
    pow_below w (computed w) less

masked_of : (widths : List ℕ) (whole : Bool) (w : ℕ) (v : CValue) → w ≤ 64 → Of widths (computed w) v → Of widths (computed w) (masked_if whole w v)
masked_of widths false w v limit h = h
masked_of widths true w v limit h =
    cond_both (nat_eq w (computed w)) v (c_rest (computed w) v (2 ^ w)) (Of widths (computed w)) (λ e. h)
    (λ e. record { is_c = (is_computed w, h.bits, pow_pos w, narrower w limit e, h.is_c); bits = refl })

cast_literal_of : (widths : List ℕ) (w n : ℕ) → n < 2 ^ 64 → Of widths (computed w) (c_cast (computed w) (c_literal n))
cast_literal_of widths w n h = record { is_c = (computed_is_unsigned w, h); bits = refl }

word_of : (widths : List ℕ) (k : ℕ) → k < length widths → Of widths (computed (slice_index widths k)) (read_word (slice_index widths k) k)
word_of widths k h =
    let w = slice_index widths k in
    cond_both (nat_eq (container w) (computed w)) (kept_word w k) (c_cast (computed w) (kept_word w k)) (Of widths (computed w))
    (λ e. record { is_c = (h, refl); bits = eqb-true (container w) (computed w) e })
    (λ e. record { is_c = (computed_is_unsigned w, (h, refl)); bits = refl })

is_beside : (g : ℕ) (v : CValue) → IsComputed g → c_bits v ≡ g → IsBeside g v
is_beside g (c_literal n) (inl e) h = absurd (omega arith)
is_beside g (c_literal n) (inr e) h = absurd (omega arith)
is_beside g (c_word c k) i h = h
is_beside g (c_cast n v) i h = h
is_beside g (c_inverse a v) i h = h
is_beside g (c_binary o a u v) i h = h
is_beside g (c_rest a v n) i h = h
is_beside g (c_shifted d a v k) i h = h
is_beside g (c_choice t u v) i h = h

-- what stands beside a value of the type in which width w is computed
record Beside (widths : List ℕ) (g : ℕ) (v : CValue) : Type 0 where
  pub is_c : IsC widths v
  pub fits : IsBeside g v

beside_same : (widths : List ℕ) (w : ℕ) (v : CValue) → Of widths (computed w) v → Beside widths (computed w) v
beside_same widths w v h = record { is_c = h.is_c; fits = is_beside (computed w) v (is_computed w) h.bits }

beside_of : (widths : List ℕ) (b : Expression) (w : ℕ) (v : CValue) → HasWidth widths b w → w ≤ 64 → Of widths (computed w) v → Beside widths (computed w) (beside b v)
beside_of widths (number u n) w v h limit of = record { is_c = literal_below n w h.1 limit; fits = beside_computed w n limit h.1 }
beside_of widths (word k) w v h limit of = beside_same widths w v of
beside_of widths (next_word k) w v h limit of = beside_same widths w v of
beside_of widths (inverse u a) w v h limit of = beside_same widths w v of
beside_of widths (binary o u a b) w v h limit of = beside_same widths w v of
beside_of widths (shifted d u a k) w v h limit of = beside_same widths w v of
beside_of widths (choice f a b) w v h limit of = beside_same widths w v of

alone_is_c : (widths : List ℕ) (e : Expression) (w : ℕ) (v : CValue) → HasWidth widths e w → w ≤ 64 → IsC widths v → IsC widths (alone widths e v)
alone_is_c widths (number u n) w v h limit is = literal_below n w h.1 limit
alone_is_c widths (word k) w v h limit is = (h.0, refl)
alone_is_c widths (next_word k) w v h limit is = (h.0, refl)
alone_is_c widths (inverse u a) w v h limit is = is
alone_is_c widths (binary o u a b) w v h limit is = is
alone_is_c widths (shifted d u a k) w v h limit is = is
alone_is_c widths (choice f a b) w v h limit is = is

inverse_of : (widths : List ℕ) (whole : Bool) (w : ℕ) (v : CValue) → w ≤ 64 → Of widths (computed w) v → Of widths (computed w) (inverse_in_c whole w v)
inverse_of widths whole w v limit h =
    masked_of widths whole w (c_inverse (computed w) v) limit (record { is_c = (is_computed w, h.bits, h.is_c); bits = refl })

bare_of : (widths : List ℕ) (o : Operator) (w : ℕ) (u v : CValue) → Of widths (computed w) u → Beside widths (computed w) v → Of widths (computed w) (c_binary o (computed w) u v)
bare_of widths o w u v h k = record { is_c = (is_computed w, h.bits, k.fits, h.is_c, k.is_c); bits = refl }

operation_of : (widths : List ℕ) (whole : Bool) (o : Operator) (w : ℕ) (u v : CValue) → w ≤ 64 → Of widths (computed w) u → Beside widths (computed w) v → Of widths (computed w) (operation_in_c whole o w u v)
operation_of widths whole Add w u v limit h k = masked_of widths whole w (c_binary Add (computed w) u v) limit (bare_of widths Add w u v h k)
operation_of widths whole Subtract w u v limit h k = masked_of widths whole w (c_binary Subtract (computed w) u v) limit (bare_of widths Subtract w u v h k)
operation_of widths whole BitAnd w u v limit h k = bare_of widths BitAnd w u v h k
operation_of widths whole BitOr w u v limit h k = bare_of widths BitOr w u v h k
operation_of widths whole BitXor w u v limit h k = bare_of widths BitXor w u v h k

binary_of : (widths : List ℕ) (whole : Bool) (o : Operator) (w : ℕ) (a : Expression) (u : CValue) (b : Expression) (v : CValue) → w ≤ 64 → HasWidth widths b w → Of widths (computed w) u → Of widths (computed w) v → Of widths (computed w) (binary_in_c whole o w a u b v)
binary_of widths whole Add w a u b v limit t h k = operation_of widths whole Add w u (beside b v) limit h (beside_of widths b w v t limit k)
binary_of widths whole Subtract w a u b v limit t h k = operation_of widths whole Subtract w u (beside b v) limit h (beside_of widths b w v t limit k)
binary_of widths whole BitAnd w a u b v limit t h k = operation_of widths whole BitAnd w u (beside b v) limit h (beside_of widths b w v t limit k)
binary_of widths whole BitOr w a u b v limit t h k = operation_of widths whole BitOr w u (beside b v) limit h (beside_of widths b w v t limit k)
binary_of widths whole BitXor w a u b v limit t h k =
    cond_both (is_top w b) (inverse_in_c whole w u) (cond (is_top w a) (inverse_in_c whole w v) (operation_in_c whole BitXor w u (beside b v))) (Of widths (computed w))
    (λ q. inverse_of widths whole w u limit h)
    (λ q. cond_both (is_top w a) (inverse_in_c whole w v) (operation_in_c whole BitXor w u (beside b v)) (Of widths (computed w))
    (λ r. inverse_of widths whole w v limit k)
    (λ r. operation_of widths whole BitXor w u (beside b v) limit h (beside_of widths b w v t limit k)))

bare_shift_of : (widths : List ℕ) (d : Shift) (w : ℕ) (v : CValue) (k : ℕ) → w ≤ 64 → nat_le w k ≡ false → Of widths (computed w) v → Of widths (computed w) (c_shifted d (computed w) v k)
bare_shift_of widths d w v k limit e h =
    let below : k < computed w = omega (arith, leb-false w k e, within_computed w limit) in
    record { is_c = (is_computed w, h.bits, below, h.is_c); bits = refl }

shift_of : (widths : List ℕ) (whole : Bool) (d : Shift) (w : ℕ) (v : CValue) (k : ℕ) → w ≤ 64 → Of widths (computed w) v → Of widths (computed w) (shift_in_c whole d w v k)
shift_of widths whole Left w v k limit h =
    cond_both (nat_le w k) (c_cast (computed w) (c_literal 0)) (masked_if whole w (c_shifted Left (computed w) v k)) (Of widths (computed w))
    (λ e. cast_literal_of widths w 0 (omega arith))
    (λ e. masked_of widths whole w (c_shifted Left (computed w) v k) limit (bare_shift_of widths Left w v k limit e h))
shift_of widths whole Right w v k limit h =
    cond_both (nat_le w k) (c_cast (computed w) (c_literal 0)) (c_shifted Right (computed w) v k) (Of widths (computed w))
    (λ e. cast_literal_of widths w 0 (omega arith))
    (λ e. bare_shift_of widths Right w v k limit e h)

connected_is_c : (widths : List ℕ) (c : Connective) (t u : CTest) → IsCTest widths t → IsCTest widths u → IsCTest widths (connected_in_c c t u)
connected_is_c widths And t u h k = (h, k)
connected_is_c widths Or t u h k = (h, k)
connected_is_c widths Implies t u h k = (h, k)
connected_is_c widths Iff t u h k = (h, k)

choice_of : (widths : List ℕ) (t : CTest) (w : ℕ) (u v : CValue) → IsCTest widths t → Of widths (computed w) u → Beside widths (computed w) v → Of widths (computed w) (c_choice t u v)
choice_of widths t w u v test h k =
    let P : ℕ → Type 0 = λ g. IsComputed g × IsBeside g v in
    let both : IsComputed (c_bits u) × IsBeside (c_bits u) v = subst P (sym h.bits) (is_computed w, k.fits) in
    record { is_c = (both.0, both.1, test, h.is_c, k.is_c); bits = h.bits }

-- along an equation of widths
of_at : (widths : List ℕ) (v w : ℕ) (c : CValue) → v ≡ w → Of widths (computed v) c → Of widths (computed w) c
of_at widths v w c e h = let P : ℕ → Type 0 = λ u. Of widths (computed u) c in subst P e h

module _ (widths : List ℕ) (limit : AreWithin widths) where
  bound : (e : Expression) (v w : ℕ) → v ≡ w → HasWidth widths e w → v ≤ 64
  bound e v w q h = omega (arith, width_within widths limit e w h)

  mutual
    value_of_type : (whole : Bool) (e : Expression) (w : ℕ) → HasWidth widths e w → Of widths (computed w) (translated widths whole e)
    value_of_type whole (number v n) w h = of_at widths v w _ h.0 (cast_literal_of widths v n (literal_below n w h.1 h.2))
    value_of_type whole (word k) w h = of_at widths _ w _ h.1 (word_of widths k h.0)
    value_of_type whole (next_word k) w h = of_at widths _ w _ h.1 (word_of widths k h.0)
    value_of_type whole (inverse v a) w h =
        of_at widths v w _ h.0 (inverse_of widths whole v (translated widths true a) (bound a v w h.0 h.1) (of_at widths w v _ (sym h.0) (value_of_type true a w h.1)))
    value_of_type whole (binary o v a b) w h =
        let P : ℕ → Type 0 = λ u. HasWidth widths b u in
        of_at widths v w _ h.0
        (binary_of widths whole o v a (translated widths true a) b (translated widths true b) (bound a v w h.0 h.1) (subst P (sym h.0) h.2)
        (of_at widths w v _ (sym h.0) (value_of_type true a w h.1)) (of_at widths w v _ (sym h.0) (value_of_type true b w h.2)))
    value_of_type whole (shifted d v a k) w h =
        of_at widths v w _ h.0 (shift_of widths whole d v (translated widths true a) k (bound a v w h.0 h.1) (of_at widths w v _ (sym h.0) (value_of_type true a w h.1)))
    value_of_type whole (choice f a b) w h =
        choice_of widths (tested widths f) w (translated widths whole a) (beside b (translated widths whole b)) (test_is_c f h.0)
        (value_of_type whole a w h.1) (beside_of widths b w (translated widths whole b) h.2 (width_within widths limit b w h.2) (value_of_type whole b w h.2))

    test_is_c : (f : Proposition) → IsTyped widths f → IsCTest widths (tested widths f)
    test_is_c (truth b) h = tt
    test_is_c (negation f) h = test_is_c f h
    test_is_c (connected c f g) h = connected_is_c widths c (tested widths f) (tested widths g) (test_is_c f h.0) (test_is_c g h.1)
    test_is_c (compared c a b) h =
        let first = alone_is_c widths a h.0 (translated widths true a) h.1 (width_within widths limit a h.0 h.1) (value_of_type true a h.0 h.1).is_c in
        let second = alone_is_c widths b h.0 (translated widths true b) h.2 (width_within widths limit b h.0 h.2) (value_of_type true b h.0 h.2).is_c in
        (first, second)

  -- a value that stands alone in a word: it has the word's type, or is a literal within it
  alone_fits : (e : Expression) (w : ℕ) (v : CValue) → HasWidth widths e w → w ≤ container w → IsBeside (container w) v → IsBeside (container w) (alone widths e v)
  alone_fits (number u n) w v h le fits = below_power n w (container w) h.1 le
  alone_fits (word k) w v h le fits = ap container h.1
  alone_fits (next_word k) w v h le fits = ap container h.1
  alone_fits (inverse u a) w v h le fits = fits
  alone_fits (binary o u a b) w v h le fits = fits
  alone_fits (shifted d u a k) w v h le fits = fits
  alone_fits (choice f a b) w v h le fits = fits

  store_is_c : (e : Expression) (w : ℕ) → HasWidth widths e w → IsC widths (stored widths w e) × IsBeside (container w) (stored widths w e)
  store_is_c e w h =
      let wide = translated widths true e in
      let part = translated widths (not (nat_eq w (container w))) e in
      let cut = c_cast (container w) part in
      let both = cond (nat_eq (container w) (computed w)) wide cut in
      let within = width_within widths limit e w h in
      let P : CValue → Type 0 = λ v. IsC widths v × IsBeside (container w) v in
      let inner : IsC widths both × IsBeside (container w) both =
      cond_both (nat_eq (container w) (computed w)) wide cut P
      (λ q. let of = value_of_type true e w h in
      let R : ℕ → Type 0 = λ g. IsBeside g wide in
      (of.is_c, subst R (sym (eqb-true (container w) (computed w) q)) (is_beside (computed w) wide (is_computed w) of.bits)))
      (λ q. ((container_is_unsigned w, (value_of_type (not (nat_eq w (container w))) e w h).is_c), refl)) in
      (alone_is_c widths e w both h within inner.0, alone_fits e w both h (within_container w within) inner.1)

pub values_are_c : ValuesAreC
values_are_c words layout e w h =
    let widths = widths_of words in
    let limit = are_within words layout in
    let of = value_of_type widths limit true (simplified e) w (simple_width widths limit e w h) in
    (of.is_c, of.bits)

pub tests_are_c : TestsAreC
tests_are_c words layout f h =
    let widths = widths_of words in
    let limit = are_within words layout in
    test_is_c widths limit (simplified_test f) (simple_typed widths limit f h)

pub stores_are_c : StoresAreC
stores_are_c words layout e w h =
    let widths = widths_of words in
    let limit = are_within words layout in
    store_is_c widths limit (simplified e) w (simple_width widths limit e w h)
