-- C computes the values and the truths of the language.
use Rattle.std.proofs.Common.{◌≡◌, ℕ, ◌%◌, ◌^◌, ◌<◌, ◌≤◌, Bool, true, false, not, cond, nat_eq, List, refl, sym, ap, ◌∙◌, subst}
use Rattle.std.specs.Prelude.{nat_le, slice_index}
use Rattle.std.proofs.lemmas.Bool.{cond_both, eqb-true, leb-true}
use Rattle.std.proofs.Math.Nat.{mod-eq_of_lt}
use Rattle.rg_words.specs.Layout.{widths_of}
use Rattle.rg_words.specs.States.{AreValues}
use Rattle.rg_tree.specs.Trees.{Expression, Proposition, number, word, next_word, inverse, binary, shifted, choice, truth, negation, connected, compared}
use Rattle.rg_tree.specs.Meaning.{value_of, holds}
use Rattle.rg_tree.specs.Typing.{HasWidth, IsTyped}
use Rattle.rg_tree.proofs.Widths.{values_within}
use Rattle.rg_c_values.specs.CTrees.{c_cast}
use Rattle.rg_c_values.specs.Arithmetic.{c_value, c_holds}
use Rattle.rg_c_values.specs.Translation.{container, computed, beside, translated, tested, stored}
use Rattle.rg_c_values.specs.Laws.{ValuesAreRight, TestsAreRight, StoresAreRight}
use Rattle.rg_c_values.specs.Simplified.{simplified, simplified_test}
use Rattle.rg_c_values.proofs.Limits.{AreWithin, are_within, limit_at, width_within}
use Rattle.rg_c_values.proofs.Simple.{simple_width, simple_typed, simple_value, simple_truth}
use Rattle.rg_c_values.proofs.Numbers.{below_power}
use Rattle.rg_c_values.proofs.PiecesMean.{Gives, gives_exact, within_computed, inverse_value, binary_value, beside_value, alone_value, shift_value, word_value, choice_value, comparison_value, connective_value}

at_width : (n v w : ℕ) → v ≡ w → n < 2 ^ v → n < 2 ^ w
at_width n v w e h = let P : ℕ → Type 0 = λ x. n < 2 ^ x in subst P e h

gives_at : (whole : Bool) (v w n x : ℕ) → v ≡ w → Gives whole v n x → Gives whole w n x
gives_at whole v w n x e h = let P : ℕ → Type 0 = λ u. Gives whole u n x in subst P e h

module _ (widths s : List ℕ) (limit : AreWithin widths) (values : AreValues widths s) where
  within : (e : Expression) (w : ℕ) → HasWidth widths e w → value_of e s s < 2 ^ w
  within e w h = values_within widths s s e w h values values

  mutual
    pub gives : (whole : Bool) (e : Expression) (w : ℕ) → HasWidth widths e w → Gives whole w (c_value (translated widths whole e) s) (value_of e s s)
    gives whole (number v n) w h =
        let below : n < 2 ^ computed v = below_power n v (computed v) (at_width n w v (sym h.0) h.1) (within_computed v (limit_at v w h.0 h.2)) in
        gives_exact whole w (n % 2 ^ computed v) n (mod-eq_of_lt below) h.1
    gives whole (word k) w h =
        let below = within (word k) w h in
        let u = slice_index widths k in
        gives_exact whole w _ _ (word_value u k s (limit k h.0) (at_width _ w u (sym h.1) below)) below
    gives whole (next_word k) w h =
        let below = within (word k) w h in
        let u = slice_index widths k in
        gives_exact whole w _ _ (word_value u k s (limit k h.0) (at_width _ w u (sym h.1) below)) below
    gives whole (inverse v a) w h =
        let below = within a w h.1 in
        gives_at whole v w _ _ h.0
        (inverse_value whole v (translated widths true a) s (value_of a s s) (limit_at v w h.0 (width_within widths limit a w h.1)) (gives true a w h.1) (at_width _ w v (sym h.0) below))
    gives whole (binary o v a b) w h =
        gives_at whole v w _ _ h.0
        (binary_value whole o v a (translated widths true a) b (translated widths true b) s (limit_at v w h.0 (width_within widths limit a w h.1)) (gives true a w h.1) (gives true b w h.2)
        (at_width _ w v (sym h.0) (within a w h.1)) (at_width _ w v (sym h.0) (within b w h.2)))
    gives whole (shifted d v a k) w h =
        gives_at whole v w _ _ h.0
        (shift_value whole d v (translated widths true a) s k (value_of a s s) (limit_at v w h.0 (width_within widths limit a w h.1)) (gives true a w h.1) (at_width _ w v (sym h.0) (within a w h.1)))
    gives whole (choice f a b) w h =
        let P : Bool → Type 0 = λ t. Gives whole w (cond t (c_value (translated widths whole a) s) (c_value (beside b (translated widths whole b)) s)) (cond (holds f s s) (value_of a s s) (value_of b s s)) in
        subst P (sym (tells f h.0))
        (choice_value whole w (holds f s s) _ _ _ _ (gives whole a w h.1) (beside_value whole w b (translated widths whole b) s (gives whole b w h.2) (within b w h.2)))

    pub tells : (f : Proposition) → IsTyped widths f → c_holds (tested widths f) s ≡ holds f s s
    tells (truth b) h = refl
    tells (negation f) h = ap not (tells f h)
    tells (connected c f g) h = connective_value c (tested widths f) (tested widths g) s _ _ (tells f h.0) (tells g h.1)
    tells (compared c a b) h =
        comparison_value widths c a b (translated widths true a) (translated widths true b) s (gives true a h.0 h.1) (gives true b h.0 h.2)

  -- a value cast to the container: the cast is the mask where the container has w bits
  cast_value : (e : Expression) (w : ℕ) → HasWidth widths e w → w ≤ container w → (t : Bool) → nat_eq w (container w) ≡ t → c_value (translated widths (not t) e) s % 2 ^ container w ≡ value_of e s s
  cast_value e w h le true q =
      let P : ℕ → Type 0 = λ c. c_value (translated widths false e) s % 2 ^ c ≡ value_of e s s in
      subst P (eqb-true w (container w) q) (gives false e w h)
  cast_value e w h le false q = ap (λ n. n % 2 ^ container w) (gives true e w h) ∙ mod-eq_of_lt (below_power (value_of e s s) w (container w) (within e w h) le)

  pub stored_value : (e : Expression) (w : ℕ) → HasWidth widths e w → w ≤ container w → c_value (stored widths w e) s ≡ value_of e s s
  stored_value e w h le =
      let wide = translated widths true e in
      let cut = c_cast (container w) (translated widths (not (nat_eq w (container w))) e) in
      alone_value widths e (cond (nat_eq (container w) (computed w)) wide cut) s
      (cond_both (nat_eq (container w) (computed w)) wide cut (λ v. c_value v s ≡ value_of e s s)
      (λ q. gives true e w h) (λ q. cast_value e w h le (nat_eq w (container w)) refl))

pub within_container : (w : ℕ) → w ≤ 64 → w ≤ container w
within_container w h =
    cond_both (nat_le w 8) 8 (cond (nat_le w 16) 16 (cond (nat_le w 32) 32 64)) (λ c. w ≤ c) (λ e. leb-true w 8 e)
    (λ _. cond_both (nat_le w 16) 16 (cond (nat_le w 32) 32 64) (λ c. w ≤ c) (λ e. leb-true w 16 e)
    (λ _. cond_both (nat_le w 32) 32 64 (λ c. w ≤ c) (λ e. leb-true w 32 e) (λ _. h)))

pub values_are_right : ValuesAreRight
values_are_right words s layout state e w h =
    let widths = widths_of words in
    let limit = are_within words layout in
    gives widths s limit state true (simplified e) w (simple_width widths limit e w h) ∙ simple_value widths s limit state e w h

pub tests_are_right : TestsAreRight
tests_are_right words s layout state f h =
    let widths = widths_of words in
    let limit = are_within words layout in
    tells widths s limit state (simplified_test f) (simple_typed widths limit f h) ∙ simple_truth widths s limit state f h

pub stores_are_right : StoresAreRight
stores_are_right words s layout state e w h =
    let widths = widths_of words in
    let limit = are_within words layout in
    let simple = simple_width widths limit e w h in
    let same = stored_value widths s limit state (simplified e) w simple (within_container w (width_within widths limit e w h)) ∙ simple_value widths s limit state e w h in
    let P : ℕ → Type 0 = λ n. n < 2 ^ w in
    (same, subst P (sym same) (values_within widths s s e w h state state))
