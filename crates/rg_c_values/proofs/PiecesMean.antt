-- What C computes of the pieces that expressions are made of.
use Rattle.std.proofs.Common.{◌≡◌, ℕ, ◌+◌, ◌-◌, ◌*◌, ◌/◌, ◌%◌, ◌^◌, ◌<◌, ◌≤◌, Bool, true, false, cond, nat_eq, List, refl, sym, ap, ◌∙◌, subst, arith}
use Rattle.std.specs.Prelude.{nat_le, slice_index, bit_xor}
use Rattle.std.proofs.lemmas.Bool.{cond_both, eqb-true, leb-true}
use Rattle.std.proofs.lemmas.Nat.{pow_pos, xor_comm}
use Rattle.std.proofs.Math.Nat.{mod-eq_of_lt, mod-lt, zero-mod}
use Rattle.rg_words.specs.declared.operators.Operator.{Operator}
use Rattle.rg_words.specs.declared.operators.Operator.TheVariants.{Add, Subtract, BitAnd, BitOr, BitXor}
use Rattle.rg_words.specs.declared.operators.Shift.{Shift}
use Rattle.rg_words.specs.declared.operators.Shift.TheVariants.{Left, Right}
use Rattle.rg_words.specs.declared.operators.Comparison.{Comparison}
use Rattle.rg_words.specs.declared.operators.Comparison.TheVariants.{Equal, NotEqual, Less, LessOrEqual, Greater, GreaterOrEqual}
use Rattle.rg_words.specs.declared.operators.Connective.{Connective}
use Rattle.rg_words.specs.declared.operators.Connective.TheVariants.{And, Or, Implies, Iff}
use Rattle.rg_tree.specs.Trees.{Expression, number, word, next_word, inverse, binary, shifted, choice}
use Rattle.rg_tree.specs.Meaning.{operated, moved, is_so, joined, value_of}
use Rattle.rg_c_values.specs.CTrees.{CValue, CTest, c_literal, c_cast, c_inverse, c_binary, c_rest, c_shifted, c_compared}
use Rattle.rg_c_values.specs.Arithmetic.{c_is_so, c_value, c_holds}
use Rattle.rg_c_values.specs.Translation.{container, computed, masked, masked_if, kept_word, read_word, beside, alone, is_top, operation_in_c, inverse_in_c, binary_in_c, shift_in_c, connected_in_c}
use Rattle.rg_c_values.specs.Simplified.{top}
use Rattle.rg_c_values.proofs.Numbers.{all_moved, below_power, inverse_low, operated_below, sum_low, subtracted_low, xor_top, low_of_low, moved_below}

-- a width within the limit is within the type in which it is computed
pub within_computed : (w : ℕ) → w ≤ 64 → w ≤ computed w
within_computed w h = cond_both (nat_le w 32) 32 64 (λ g. w ≤ g) (λ e. leb-true w 32 e) (λ e. h)

-- the value itself, or its low bits
abbrev pub Gives : Bool → ℕ → ℕ → ℕ → Type 0
Gives true w n x = n ≡ x
Gives false w n x = n % 2 ^ w ≡ x

pub gives_exact : (whole : Bool) (w n x : ℕ) → n ≡ x → x < 2 ^ w → Gives whole w n x
gives_exact true w n x e h = e
gives_exact false w n x e h = ap (λ m. m % 2 ^ w) e ∙ mod-eq_of_lt h

masked_value : (w : ℕ) (v : CValue) (s : List ℕ) → c_value v s < 2 ^ computed w → c_value (masked w v) s ≡ c_value v s % 2 ^ w
masked_value w v s h =
    cond_both (nat_eq w (computed w)) v (c_rest (computed w) v (2 ^ w)) (λ u. c_value u s ≡ c_value v s % 2 ^ w)
    (λ e. let P : ℕ → Type 0 = λ g. c_value v s < 2 ^ g in sym (mod-eq_of_lt (subst P (sym (eqb-true w (computed w) e)) h)))
    (λ e. refl)

gives_masked : (whole : Bool) (w : ℕ) (v : CValue) (s : List ℕ) (x : ℕ) → c_value v s < 2 ^ computed w → c_value v s % 2 ^ w ≡ x → Gives whole w (c_value (masked_if whole w v) s) x
gives_masked true w v s x h e = masked_value w v s h ∙ e
gives_masked false w v s x h e = e

pub inverse_value : (whole : Bool) (w : ℕ) (v : CValue) (s : List ℕ) (x : ℕ) → w ≤ 64 → c_value v s ≡ x → x < 2 ^ w → Gives whole w (c_value (inverse_in_c whole w v) s) (2 ^ w - 1 - x)
inverse_value whole w v s x limit e h =
    let g = computed w in
    let le = within_computed w limit in
    let low : (2 ^ g - 1 - c_value v s) % 2 ^ w ≡ 2 ^ w - 1 - x = ap (λ y. (2 ^ g - 1 - y) % 2 ^ w) e ∙ inverse_low x g w le h in
    let below : 2 ^ g - 1 - c_value v s < 2 ^ g = omega (arith, pow_pos g) in
    gives_masked whole w (c_inverse g v) s (2 ^ w - 1 - x) below low

-- an operation, where the operands are below the power of the width
pub operation_value : (whole : Bool) (o : Operator) (w : ℕ) (u v : CValue) (s : List ℕ) (x y : ℕ) → w ≤ 64 → c_value u s ≡ x → c_value v s ≡ y → x < 2 ^ w → y < 2 ^ w → Gives whole w (c_value (operation_in_c whole o w u v) s) (operated o w x y)
operation_value whole Add w u v s x y limit e f h k =
    let g = computed w in
    let low : (c_value u s + c_value v s) % 2 ^ g % 2 ^ w ≡ (x + y) % 2 ^ w = rw (e, f) (sum_low x y g w (within_computed w limit)) in
    gives_masked whole w (c_binary Add g u v) s (operated Add w x y) (mod-lt _ (pow_pos g)) low
operation_value whole Subtract w u v s x y limit e f h k =
    let g = computed w in
    let low : (c_value u s + (2 ^ g - c_value v s)) % 2 ^ g % 2 ^ w ≡ (x + (2 ^ w - y)) % 2 ^ w = rw (e, f) (subtracted_low x y g w (within_computed w limit) k) in
    gives_masked whole w (c_binary Subtract g u v) s (operated Subtract w x y) (mod-lt _ (pow_pos g)) low
operation_value whole BitAnd w u v s x y limit e f h k = gives_exact whole w _ _ (rw (e, f) refl) (operated_below BitAnd w x y h k)
operation_value whole BitOr w u v s x y limit e f h k = gives_exact whole w _ _ (rw (e, f) refl) (operated_below BitOr w x y h k)
operation_value whole BitXor w u v s x y limit e f h k = gives_exact whole w _ _ (rw (e, f) refl) (operated_below BitXor w x y h k)

top_value : (w : ℕ) (e : Expression) (s : List ℕ) → is_top w e ≡ true → value_of e s s ≡ 2 ^ w - 1
top_value w (number v n) s h = eqb-true n (top w) h
top_value w (word k) s h = absurd (cc)
top_value w (next_word k) s h = absurd (cc)
top_value w (inverse v a) s h = absurd (cc)
top_value w (binary o v a b) s h = absurd (cc)
top_value w (shifted d v a k) s h = absurd (cc)
top_value w (choice f a b) s h = absurd (cc)

pub beside_value : (whole : Bool) (w : ℕ) (e : Expression) (v : CValue) (s : List ℕ) → Gives whole w (c_value v s) (value_of e s s) → value_of e s s < 2 ^ w → Gives whole w (c_value (beside e v) s) (value_of e s s)
beside_value whole w (number u n) v s g h = gives_exact whole w n n refl h
beside_value whole w (word k) v s g h = g
beside_value whole w (next_word k) v s g h = g
beside_value whole w (inverse u a) v s g h = g
beside_value whole w (binary o u a b) v s g h = g
beside_value whole w (shifted d u a k) v s g h = g
beside_value whole w (choice f a b) v s g h = g

pub alone_value : (widths : List ℕ) (e : Expression) (v : CValue) (s : List ℕ) → c_value v s ≡ value_of e s s → c_value (alone widths e v) s ≡ value_of e s s
alone_value widths (number u n) v s h = refl
alone_value widths (word k) v s h = refl
alone_value widths (next_word k) v s h = refl
alone_value widths (inverse u a) v s h = h
alone_value widths (binary o u a b) v s h = h
alone_value widths (shifted d u a k) v s h = h
alone_value widths (choice f a b) v s h = h

pub binary_value : (whole : Bool) (o : Operator) (w : ℕ) (a : Expression) (u : CValue) (b : Expression) (v : CValue) (s : List ℕ) → w ≤ 64 → c_value u s ≡ value_of a s s → c_value v s ≡ value_of b s s → value_of a s s < 2 ^ w → value_of b s s < 2 ^ w → Gives whole w (c_value (binary_in_c whole o w a u b v) s) (operated o w (value_of a s s) (value_of b s s))
binary_value whole Add w a u b v s limit e f h k = operation_value whole Add w u (beside b v) s _ _ limit e (beside_value true w b v s f k) h k
binary_value whole Subtract w a u b v s limit e f h k = operation_value whole Subtract w u (beside b v) s _ _ limit e (beside_value true w b v s f k) h k
binary_value whole BitAnd w a u b v s limit e f h k = operation_value whole BitAnd w u (beside b v) s _ _ limit e (beside_value true w b v s f k) h k
binary_value whole BitOr w a u b v s limit e f h k = operation_value whole BitOr w u (beside b v) s _ _ limit e (beside_value true w b v s f k) h k
binary_value whole BitXor w a u b v s limit e f h k =
    let x = value_of a s s in
    let y = value_of b s s in
    let P : CValue → Type 0 = λ t. Gives whole w (c_value t s) (bit_xor x y) in
    cond_both (is_top w b) (inverse_in_c whole w u) (cond (is_top w a) (inverse_in_c whole w v) (operation_in_c whole BitXor w u (beside b v))) P
    (λ q. let same : 2 ^ w - 1 - x ≡ bit_xor x y = sym (ap (bit_xor x) (top_value w b s q) ∙ xor_top x w h) in
    let R : ℕ → Type 0 = λ n. Gives whole w (c_value (inverse_in_c whole w u) s) n in
    subst R same (inverse_value whole w u s x limit e h))
    (λ q. cond_both (is_top w a) (inverse_in_c whole w v) (operation_in_c whole BitXor w u (beside b v)) P
    (λ r. let same : 2 ^ w - 1 - y ≡ bit_xor x y = sym (xor_comm x y ∙ ap (bit_xor y) (top_value w a s r) ∙ xor_top y w k) in
    let R : ℕ → Type 0 = λ n. Gives whole w (c_value (inverse_in_c whole w v) s) n in
    subst R same (inverse_value whole w v s y limit f k))
    (λ r. operation_value whole BitXor w u (beside b v) s x y limit e (beside_value true w b v s f k) h k))

pub shift_value : (whole : Bool) (d : Shift) (w : ℕ) (v : CValue) (s : List ℕ) (k x : ℕ) → w ≤ 64 → c_value v s ≡ x → x < 2 ^ w → Gives whole w (c_value (shift_in_c whole d w v k) s) (moved d w x k)
shift_value whole Left w v s k x limit e h =
    let g = computed w in
    let none = c_cast g (c_literal 0) in
    let some = masked_if whole w (c_shifted Left g v k) in
    cond_both (nat_le w k) none some (λ t. Gives whole w (c_value t s) (moved Left w x k))
    (λ q. gives_exact whole w (c_value none s) (moved Left w x k) (zero-mod (2 ^ g) ∙ sym (all_moved Left w x k (leb-true w k q) h)) (moved_below Left w x k h))
    (λ q. gives_masked whole w (c_shifted Left g v k) s (moved Left w x k) (mod-lt _ (pow_pos g))
    (ap (λ y. y * 2 ^ k % 2 ^ g % 2 ^ w) e ∙ low_of_low (x * 2 ^ k) g w (within_computed w limit)))
shift_value whole Right w v s k x limit e h =
    let g = computed w in
    let none = c_cast g (c_literal 0) in
    cond_both (nat_le w k) none (c_shifted Right g v k) (λ t. Gives whole w (c_value t s) (moved Right w x k))
    (λ q. gives_exact whole w (c_value none s) (moved Right w x k) (zero-mod (2 ^ g) ∙ sym (all_moved Right w x k (leb-true w k q) h)) (moved_below Right w x k h))
    (λ q. gives_exact whole w (c_value (c_shifted Right g v k) s) (moved Right w x k) (ap (λ y. y / 2 ^ k) e) (moved_below Right w x k h))

pub word_value : (w k : ℕ) (s : List ℕ) → w ≤ 64 → slice_index s k < 2 ^ w → c_value (read_word w k) s ≡ slice_index s k
word_value w k s limit h =
    cond_both (nat_eq (container w) (computed w)) (kept_word w k) (c_cast (computed w) (kept_word w k)) (λ t. c_value t s ≡ slice_index s k)
    (λ e. refl)
    (λ e. mod-eq_of_lt (below_power (slice_index s k) w (computed w) h (within_computed w limit)))

pub choice_value : (whole : Bool) (w : ℕ) (t : Bool) (m n x y : ℕ) → Gives whole w m x → Gives whole w n y → Gives whole w (cond t m n) (cond t x y)
choice_value whole w true m n x y g h = g
choice_value whole w false m n x y g h = h

c_is_so_is : (c : Comparison) (x y : ℕ) → c_is_so c x y ≡ is_so c x y
c_is_so_is Equal x y = refl
c_is_so_is NotEqual x y = refl
c_is_so_is Less x y = refl
c_is_so_is LessOrEqual x y = refl
c_is_so_is Greater x y = refl
c_is_so_is GreaterOrEqual x y = refl

-- a comparison of two values
pub comparison_value : (widths : List ℕ) (c : Comparison) (a b : Expression) (u v : CValue) (s : List ℕ) → c_value u s ≡ value_of a s s → c_value v s ≡ value_of b s s → c_holds (c_compared c (alone widths a u) (alone widths b v)) s ≡ is_so c (value_of a s s) (value_of b s s)
comparison_value widths c a b u v s e f =
    ap (λ m. c_is_so c m (c_value (alone widths b v) s)) (alone_value widths a u s e)
    ∙ ap (λ m. c_is_so c (value_of a s s) m) (alone_value widths b v s f) ∙ c_is_so_is c (value_of a s s) (value_of b s s)

-- a connective of two tests
pub connective_value : (c : Connective) (t u : CTest) (s : List ℕ) (p q : Bool) → c_holds t s ≡ p → c_holds u s ≡ q → c_holds (connected_in_c c t u) s ≡ joined c p q
connective_value And t u s p q e f = rw (e, f) refl
connective_value Or t u s p q e f = rw (e, f) refl
connective_value Implies t u s p q e f = rw (e, f) refl
connective_value Iff t u s p q e f = rw (e, f) refl
