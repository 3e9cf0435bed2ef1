-- the digits of a number, one by one
use Rattle.std.proofs.Common.{◌≡◌, ℕ, zero, suc, ◌+◌, ◌-◌, ◌<◌, ◌≤◌, true, false, ◌&&◌, List, [], ◌∷◌, length, get_or, take, None, refl, sym, arith}
use Rattle.std.specs.Char.{is_ascii_digit, digit_value}
use Rattle.std.specs.Str.{all_ascii_digits}
use Rattle.std.specs.Str.Parse.{digits_value}
use Rattle.std.proofs.lemmas.Bool.{cond-false, and_left, and_right, and_parts, and_from}
use Rattle.std.proofs.lemmas.Bool.Decides.{nat_tests}
use Rattle.std.specs.List.{prefix_len}
use Rattle.rg_hint_lines.specs.Text.{is_filled, in_range, number_in}

-- a byte that is no digit
pub not_digits : (field : List ℕ) (i : ℕ) → i < length field → is_ascii_digit (get_or field i 0) ≡ false → all_ascii_digits field ≡ false
not_digits [] i h e = absurd (omega arith)
not_digits (b ∷ field) zero h e = and_left (is_ascii_digit b) (all_ascii_digits field) e
not_digits (b ∷ field) (suc i) h e = and_right (is_ascii_digit b) (all_ascii_digits field) (not_digits field i (omega arith) e)

pub no_number : (field : List ℕ) → all_ascii_digits field ≡ false → None ≡ number_in field
no_number field e = sym (cond-false (is_filled field && all_ascii_digits field) (in_range (digits_value 10 field)) None (and_right (is_filled field) (all_ascii_digits field) e))

pub digits_more : (field : List ℕ) (i : ℕ) → i < length field → all_ascii_digits (take i field) ≡ true → is_ascii_digit (get_or field i 0) ≡ true → all_ascii_digits (take (i + 1) field) ≡ true
digits_more [] i h all e = absurd (omega arith)
digits_more (b ∷ field) zero h all e = and_from (is_ascii_digit b) true e refl
digits_more (b ∷ field) (suc i) h all e =
    let one : suc i + 1 ≡ suc (i + 1) = omega arith in
    let parts = and_parts (is_ascii_digit b) (all_ascii_digits (take i field)) all in
    rw one (and_from (is_ascii_digit b) (all_ascii_digits (take (i + 1) field)) parts.0 (digits_more field i (omega arith) parts.1 e))

pub digit_is : (b : ℕ) → is_ascii_digit b ≡ true → (48 ≤ b) × (b ≤ 57) × (digit_value b ≡ b - 48)
digit_is b e =
    let low : 48 ≤ b = grind (arith, nat_tests) in
    let high : b ≤ 57 = grind (arith, nat_tests) in
    (low, high, grind (arith, nat_tests))

-- digits that end where no digit stands
pub digits_end : (xs : List ℕ) (i : ℕ) → i ≤ length xs → all_ascii_digits (take i xs) ≡ true → (i < length xs → is_ascii_digit (get_or xs i 0) ≡ false) → i ≡ prefix_len is_ascii_digit xs
digits_end [] i h all stops = omega (arith, h)
digits_end (x ∷ xs) zero h all stops = let e : is_ascii_digit x ≡ false = stops (omega arith) in rw e refl
digits_end (x ∷ xs) (suc i) h all stops =
    let parts = and_parts (is_ascii_digit x) (all_ascii_digits (take i xs)) all in
    let rest = digits_end xs i (omega (arith, h)) parts.1 (λ l. stops (omega (arith, l))) in
    rw parts.0 (omega (arith, rest))
