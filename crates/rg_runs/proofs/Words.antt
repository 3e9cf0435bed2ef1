-- Words one by one.
use Rattle.std.proofs.Common.{◌≡◌, ℕ, zero, suc, ◌+◌, ◌*◌, ◌%◌, ◌<◌, ◌≤◌, ◌^◌, Bool, true, false, ◌&&◌, List, [], ◌∷◌, length, take, refl, sym, ap, ◌∙◌, arith}
use Rattle.std.proofs.Math.Nat.{mod-eq_of_lt, pow-le-pow_right}
use Rattle.std.proofs.lemmas.Bool.{eq-eqb, eqb-true}
use Rattle.std.specs.Prelude.{◌==◌, IsTrue, ◌↔◌, slice_index, slice_index_or, slice_set}
use Rattle.rg_words.specs.Layout.{Word, widths_of, fixed_of}
use Rattle.rg_words.specs.States.{IsState, SameIf, AgreeOnFixed}
use Rattle.rg_tree.specs.Traces.{Step, IsTraceOf}
use Rattle.rg_tree.specs.Following.{same_state}

-- where each fixed word has the same value in both, they agree
pub agree_from : (words : List Word) (s t : List ℕ) → ((i : ℕ) → i < length words → SameIf (slice_index_or (fixed_of words) i false) (slice_index s i) (slice_index t i)) → AgreeOnFixed words s t
unfolding AgreeOnFixed
agree_from [] s t h = tt
agree_from (w ∷ ws) [] t h = tt
agree_from (w ∷ ws) (x ∷ xs) [] h = tt
agree_from (w ∷ ws) (x ∷ xs) (y ∷ ys) h = (h 0 (omega arith), agree_from ws xs ys (λ i lt. h (suc i) (omega arith)))

-- where they agree, each fixed word has the same value in both
pub agree_at : (words : List Word) (s t : List ℕ) → IsState words s → IsState words t → AgreeOnFixed words s t → (i : ℕ) → i < length words → SameIf (slice_index_or (fixed_of words) i false) (slice_index s i) (slice_index t i)
unfolding AgreeOnFixed
agree_at [] s t first second h i lt = absurd (omega arith)
agree_at (w ∷ ws) (x ∷ xs) (y ∷ ys) first second h zero lt = h.0
agree_at (w ∷ ws) (x ∷ xs) (y ∷ ys) first second h (suc i) lt = agree_at ws xs ys first.1 second.1 h.1 i (omega arith)
agree_at (w ∷ ws) [] t first second h i lt = absurd first
agree_at (w ∷ ws) (x ∷ xs) [] first second h i lt = absurd second

-- a state has a value for each word
pub state_length : (words : List Word) (s : List ℕ) → IsState words s → length s ≡ length words
state_length [] [] h = refl
state_length (w ∷ ws) (x ∷ xs) h = ap suc (state_length ws xs h.1)
state_length [] (x ∷ xs) h = absurd h
state_length (w ∷ ws) [] h = absurd h

-- where so many values are each within their words' widths, they are a state
pub state_from : (words : List Word) (s : List ℕ) → length s ≡ length words → ((i : ℕ) → i < length words → slice_index s i < 2 ^ slice_index (widths_of words) i) → IsState words s
state_from [] [] e h = tt
state_from (w ∷ ws) (x ∷ xs) e h = (h 0 (omega arith), state_from ws xs (omega (arith, e)) (λ i lt. h (suc i) (omega arith)))
state_from [] (x ∷ xs) e h = absurd (omega arith)
state_from (w ∷ ws) [] e h = absurd (omega arith)

-- each value of a state is within its word's width
pub state_at : (words : List Word) (s : List ℕ) (i : ℕ) → IsState words s → i < length words → slice_index s i < 2 ^ slice_index (widths_of words) i
state_at [] s i h lt = absurd (omega arith)
state_at (w ∷ ws) (x ∷ xs) zero h lt = h.0
state_at (w ∷ ws) (x ∷ xs) (suc i) h lt = state_at ws xs i h.1 (omega arith)
state_at (w ∷ ws) [] i h lt = absurd h

-- the values up to a place are copied, and then the one there
copied_next : (xs ys : List ℕ) (i : ℕ) → length xs ≡ length ys → i < length ys → take i xs ≡ take i ys → take (suc i) (slice_set xs i (slice_index ys i)) ≡ take (suc i) ys
copied_next [] ys i e lt h = absurd (omega arith)
copied_next (x ∷ xs) [] i e lt h = absurd (omega arith)
copied_next (x ∷ xs) (y ∷ ys) zero e lt h = refl
copied_next (x ∷ xs) (y ∷ ys) (suc i) e lt h =
    let first : x ≡ y = cc h in
    let rest : take i xs ≡ take i ys = cc h in
    rw first (ap (λ l. y ∷ l) (copied_next xs ys i (omega (arith, e)) (omega arith) rest))

pub copied_more : (xs ys : List ℕ) (i : ℕ) → length xs ≡ length ys → i < length ys → take i xs ≡ take i ys → take (i + 1) (slice_set xs i (slice_index ys i)) ≡ take (i + 1) ys
copied_more xs ys i e lt h =
    let next : i + 1 ≡ suc i = omega arith in rw next (copied_next xs ys i e lt h)

same_self : (xs : List ℕ) → same_state xs xs ≡ true
same_self [] = refl
same_self (x ∷ xs) = rw (eq-eqb x x refl, same_self xs) refl

and_parts : (a b : Bool) → (a && b) ≡ true → (a ≡ true) × (b ≡ true)
and_parts true b h = (refl, h)
and_parts false b h = cc h

same_lists : (xs ys : List ℕ) → same_state xs ys ≡ true → xs ≡ ys
same_lists [] [] h = refl
same_lists (x ∷ xs) (y ∷ ys) h =
    let both = and_parts (x == y) (same_state xs ys) h in
    let first = eqb-true x y both.0 in
    let rest = same_lists xs ys both.1 in
    cc
same_lists [] (y ∷ ys) h = cc h
same_lists (x ∷ xs) [] h = cc h

-- a test of equal lists is the one of the definitions
pub same_by_test : (b : Bool) (xs ys : List ℕ) → IsTrue b ↔ (xs ≡ ys) → b ≡ same_state xs ys
same_by_test true xs ys h = let e = h.0 refl in rw e (sym (same_self ys))
same_by_test false xs ys h = by_test (same_state xs ys) refl
  where
    by_test : (c : Bool) → same_state xs ys ≡ c → false ≡ same_state xs ys
    by_test true e = absurd (cc (h.1 (same_lists xs ys e)))
    by_test false e = sym e

-- 2 to the power of a width, in 128 bits
pub size_full : (w : ℕ) → w ≤ 64 → 1 * 2 ^ w % 2 ^ 128 ≡ 2 ^ w
size_full w h =
    let positive : 0 < 2 = omega arith in
    let size = pow-le-pow_right positive h in
    mod-eq_of_lt (omega (arith, size)) ∙ omega arith

-- a value at or above its size is none of a state
pub no_state : (words : List Word) (s : List ℕ) (i x y w : ℕ) → i < length words → x ≡ slice_index s i → y ≡ x → w ≡ slice_index (widths_of words) i → w ≤ 64 → 1 * 2 ^ w % 2 ^ 128 ≤ y → IsState words s → IsTrue false
no_state words s i x y w lt value same width limit above st =
    let within = state_at words s i st lt in
    let size : 1 * 2 ^ w % 2 ^ 128 ≡ 2 ^ slice_index (widths_of words) i = size_full w limit ∙ ap (λ k. 2 ^ k) width in
    absurd (omega (arith, within, size, above, value, same))

-- and one below it is within its width
pub within_size : (words : List Word) (s : List ℕ) (i x y w : ℕ) → x ≡ slice_index s i → y ≡ x → w ≡ slice_index (widths_of words) i → w ≤ 64 → y < 1 * 2 ^ w % 2 ^ 128 → slice_index s i < 2 ^ slice_index (widths_of words) i
within_size words s i x y w value same width limit below =
    let size : 1 * 2 ^ w % 2 ^ 128 ≡ 2 ^ slice_index (widths_of words) i = size_full w limit ∙ ap (λ k. 2 ^ k) width in
    omega (arith, size, below, value, same)

pub same_where : (b : Bool) (x y : ℕ) → b ≡ true → SameIf b x y → x ≡ y
same_where true x y e h = h
same_where false x y e h = cc e

-- a trace begins with a state
pub trace_state : (words : List Word) (n : ℕ) (s : List ℕ) (xs : List Step) → IsTraceOf words n s xs → IsState words s
trace_state words n s [] h = h
trace_state words n s (x ∷ xs) h = h.1.first
