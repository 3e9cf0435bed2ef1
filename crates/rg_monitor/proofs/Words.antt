-- States word by word.
use Rattle.std.proofs.Common.{◌≡◌, ℕ, zero, suc, ◌*◌, ◌%◌, ◌<◌, ◌≤◌, ◌^◌, List, [], ◌∷◌, length, refl, ap, false, ◌∙◌, arith}
use Rattle.std.proofs.Math.Nat.{mod-eq_of_lt, pow-le-pow_right}
use Rattle.std.specs.Prelude.{IsTrue, slice_index}
use Rattle.rg_words.specs.Layout.{Word, widths_of}
use Rattle.rg_words.specs.States.{IsState}

-- a state has a value for each word
pub state_length : (words : List Word) (s : List ℕ) → IsState words s → length s ≡ length words
state_length [] [] h = refl
state_length (w ∷ ws) (x ∷ xs) h = ap suc (state_length ws xs h.1)
state_length [] (x ∷ xs) h = absurd h
state_length (w ∷ ws) [] h = absurd h

-- where so many values are each within their words' widths, they are a state
pub state_from : (words : List Word) (s : List ℕ) → length s ≡ length words → ((i : ℕ) → i < length words → slice_index s i < 2 ^ slice_index (widths_of words) i) → IsState words s
state_from [] [] e h = tt
state_from (w ∷ ws) (x ∷ xs) e h = (h 0 (omega arith), state_from ws xs (omega (arith, e)) (λ i lt. h (suc i) (omega arith)))
state_from [] (x ∷ xs) e h = absurd (omega arith)
state_from (w ∷ ws) [] e h = absurd (omega arith)

-- each value of a state is within its word's width
state_at : (words : List Word) (s : List ℕ) (i : ℕ) → IsState words s → i < length words → slice_index s i < 2 ^ slice_index (widths_of words) i
state_at [] s i h lt = absurd (omega arith)
state_at (w ∷ ws) (x ∷ xs) zero h lt = h.0
state_at (w ∷ ws) (x ∷ xs) (suc i) h lt = state_at ws xs i h.1 (omega arith)
state_at (w ∷ ws) [] i h lt = absurd h

-- 2 to the power of a width, in 128 bits
size_full : (w : ℕ) → w ≤ 64 → 1 * 2 ^ w % 2 ^ 128 ≡ 2 ^ w
size_full w h =
    let positive : 0 < 2 = omega arith in
    let size = pow-le-pow_right positive h in
    mod-eq_of_lt (omega (arith, size)) ∙ omega arith

-- a value at or above its size is none of a state
pub no_state : (words : List Word) (s : List ℕ) (i x y w : ℕ) → i < length words → x ≡ slice_index s i → y ≡ x → w ≡ slice_index (widths_of words) i → w ≤ 64 → 1 * 2 ^ w % 2 ^ 128 ≤ y → IsState words s → IsTrue false
no_state words s i x y w lt value same width limit above st =
    let within = state_at words s i st lt in
    let size : 1 * 2 ^ w % 2 ^ 128 ≡ 2 ^ slice_index (widths_of words) i = size_full w limit ∙ ap (λ k. 2 ^ k) width in
    absurd (omega (arith, within, size, above, value, same))

-- and one below it is within its width
pub within_size : (words : List Word) (s : List ℕ) (i x y w : ℕ) → x ≡ slice_index s i → y ≡ x → w ≡ slice_index (widths_of words) i → w ≤ 64 → y < 1 * 2 ^ w % 2 ^ 128 → slice_index s i < 2 ^ slice_index (widths_of words) i
within_size words s i x y w value same width limit below =
    let size : 1 * 2 ^ w % 2 ^ 128 ≡ 2 ^ slice_index (widths_of words) i = size_full w limit ∙ ap (λ k. 2 ^ k) width in
    omega (arith, size, below, value, same)
