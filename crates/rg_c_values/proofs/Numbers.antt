-- Arithmetic at more bits, of which the low ones are the arithmetic at fewer.
use Rattle.std.proofs.Common.{◌≡◌, ℕ, suc, ◌+◌, ◌-◌, ◌*◌, ◌%◌, ◌^◌, ◌<◌, ◌≤◌, refl, sym, ap, ◌∙◌, subst, arith}
use Rattle.std.specs.Prelude.{bit_and, bit_xor}
use Rattle.std.specs.Int.Bits.{xor_add_and}
use Rattle.std.proofs.lemmas.Nat.{pow_pos, pow-add, and_mask, and_le_l, or_lt, xor_lt, shr_le}
use Rattle.std.proofs.Math.Nat.{mod-lt, div-eq_of_lt, mul_assoc, mul-mod_left, mod-eq_of_lt, add-mul-mod_self_left}
use Rattle.std.proofs.Math.Pow.{mod-mod-pow}
use Rattle.rg_words.specs.declared.operators.Operator.{Operator}
use Rattle.rg_words.specs.declared.operators.Operator.TheVariants.{Add, Subtract, BitAnd, BitOr, BitXor}
use Rattle.rg_words.specs.declared.operators.Shift.{Shift}
use Rattle.rg_words.specs.declared.operators.Shift.TheVariants.{Left, Right}
use Rattle.rg_tree.specs.Meaning.{operated, moved}
use Rattle.rg_c_values.specs.Arithmetic.{c_operated}

-- a shorter remainder of a longer one
pub low_of_low : (n g w : ℕ) → w ≤ g → n % 2 ^ g % 2 ^ w ≡ n % 2 ^ w
low_of_low n g w le =
    let e : g - w + w ≡ g = omega arith in
    let P : ℕ → Type 0 = λ h. n % 2 ^ h % 2 ^ w ≡ n % 2 ^ w in
    subst P e (mod-mod-pow n (g - w) w)

-- the larger power is a multiple of the smaller, and at least once
multiple : (g w : ℕ) → w ≤ g → (q : ℕ) × (2 ^ g ≡ 2 ^ w + 2 ^ w * q)
multiple g w le =
    let e : g ≡ g - w + w = omega arith in
    let one : 0 < 2 ^ (g - w) = pow_pos (g - w) in
    let split : 2 ^ (g - w + w) ≡ 2 ^ (g - w) * 2 ^ w = pow-add 2 (g - w) w in
    let more : 2 ^ (g - w) ≡ suc (2 ^ (g - w) - 1) = omega (arith, one) in
    (2 ^ (g - w) - 1, ap (λ h. 2 ^ h) e ∙ split ∙ ap (λ n. n * 2 ^ w) more ∙ omega arith)

pub power_below : (w g : ℕ) → w ≤ g → 2 ^ w ≤ 2 ^ g
power_below w g le = omega (arith, (multiple g w le).1)

pub below_power : (x w g : ℕ) → x < 2 ^ w → w ≤ g → x < 2 ^ g
below_power x w g h le = omega (arith, power_below w g le)

difference_low : (x y g w : ℕ) → w ≤ g → y < 2 ^ w → (x + (2 ^ g - y)) % 2 ^ w ≡ (x + (2 ^ w - y)) % 2 ^ w
difference_low x y g w le h =
    let m = multiple g w le in
    let e : x + (2 ^ g - y) ≡ (x + (2 ^ w - y)) + 2 ^ w * m.0 = omega (arith, m.1) in
    ap (λ n. n % 2 ^ w) e ∙ add-mul-mod_self_left (x + (2 ^ w - y)) (2 ^ w) m.0

pub inverse_low : (x g w : ℕ) → w ≤ g → x < 2 ^ w → (2 ^ g - 1 - x) % 2 ^ w ≡ 2 ^ w - 1 - x
inverse_low x g w le h =
    let m = multiple g w le in
    let e : 2 ^ g - 1 - x ≡ (2 ^ w - 1 - x) + 2 ^ w * m.0 = omega (arith, m.1) in
    let below : 2 ^ w - 1 - x < 2 ^ w = omega arith in
    ap (λ n. n % 2 ^ w) e ∙ add-mul-mod_self_left (2 ^ w - 1 - x) (2 ^ w) m.0 ∙ mod-eq_of_lt below

pub operated_below : (o : Operator) (w x y : ℕ) → x < 2 ^ w → y < 2 ^ w → operated o w x y < 2 ^ w
operated_below Add w x y h k = mod-lt _ (pow_pos w)
operated_below Subtract w x y h k = mod-lt _ (pow_pos w)
operated_below BitAnd w x y h k = omega (arith, and_le_l x y)
operated_below BitOr w x y h k = or_lt w x y h k
operated_below BitXor w x y h k = xor_lt w x y h k

pub c_operated_is : (o : Operator) (g x y : ℕ) → c_operated o g x y ≡ operated o g x y
c_operated_is Add g x y = refl
c_operated_is Subtract g x y = refl
c_operated_is BitAnd g x y = refl
c_operated_is BitOr g x y = refl
c_operated_is BitXor g x y = refl

-- the low bits of a sum and of a difference
pub sum_low : (x y g w : ℕ) → w ≤ g → (x + y) % 2 ^ g % 2 ^ w ≡ (x + y) % 2 ^ w
sum_low x y g w le = low_of_low (x + y) g w le

pub subtracted_low : (x y g w : ℕ) → w ≤ g → y < 2 ^ w → (x + (2 ^ g - y)) % 2 ^ g % 2 ^ w ≡ (x + (2 ^ w - y)) % 2 ^ w
subtracted_low x y g w le h = low_of_low (x + (2 ^ g - y)) g w le ∙ difference_low x y g w le h

-- an exclusive or with all bits of 1 turns each bit
pub xor_top : (x w : ℕ) → x < 2 ^ w → bit_xor x (2 ^ w - 1) ≡ 2 ^ w - 1 - x
xor_top x w h =
    let same : bit_and x (2 ^ w - 1) ≡ x = and_mask x w ∙ mod-eq_of_lt h in
    omega (arith, same, xor_add_and x (2 ^ w - 1), pow_pos w)

pub moved_below : (d : Shift) (w x k : ℕ) → x < 2 ^ w → moved d w x k < 2 ^ w
moved_below Left w x k h = mod-lt _ (pow_pos w)
moved_below Right w x k h = omega (arith, shr_le x k)

-- a number moved to the left by w bits or more has no low bits
all_low : (x k w : ℕ) → w ≤ k → x * 2 ^ k % 2 ^ w ≡ 0
all_low x k w le =
    let e : k ≡ k - w + w = omega arith in
    let split : 2 ^ (k - w + w) ≡ 2 ^ (k - w) * 2 ^ w = pow-add 2 (k - w) w in
    ap (λ h. x * 2 ^ h % 2 ^ w) e ∙ ap (λ n. x * n % 2 ^ w) split
    ∙ ap (λ n. n % 2 ^ w) (sym (mul_assoc x (2 ^ (k - w)) (2 ^ w))) ∙ mul-mod_left (x * 2 ^ (k - w)) (2 ^ w)

-- a shift by the width or more leaves nothing
pub all_moved : (d : Shift) (w x k : ℕ) → w ≤ k → x < 2 ^ w → moved d w x k ≡ 0
all_moved Left w x k le h = all_low x k w le
all_moved Right w x k le h = div-eq_of_lt (below_power x w k h le)
