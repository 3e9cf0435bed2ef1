-- A tree that is lifted means of a state what the tree means of what stays of it, and is typed where the tree is.
use Rattle.std.proofs.Common.{◌≡◌, ◌∙◌, ℕ, zero, suc, ◌+◌, ◌<◌, Bool, true, false, not, cond, List, [], ◌∷◌, length, map, refl, ap, sym, arith}
use Rattle.std.specs.Prelude.{slice_index}
use Rattle.std.specs.List.{range_with_len}
use Rattle.std.proofs.lemmas.List.FromFn.{length-range_with_len, get_or-range_with_len, fill_by_all}
use Rattle.rg_tree.specs.Trees.{Expression, Proposition, number, word, next_word, inverse, binary, shifted, choice, truth, negation, connected, compared}
use Rattle.rg_tree.specs.Meaning.{operated, moved, is_so, joined, value_of, holds}
use Rattle.rg_tree.specs.Traces.{State, holds_at}
use Rattle.rg_tree.specs.Typing.{HasWidth, IsTyped}
use Rattle.rg_erase.specs.Erased.{staying}
use Rattle.rg_apart.specs.Lifted.{lifted, lifted_formula}

-- lists of one length keep as many
pub staying_length : {X Y : Type 0} (es : List Bool) (xs : List X) (ys : List Y) → length xs ≡ length ys → length (staying es xs) ≡ length (staying es ys)
staying_length [] xs ys h = h
staying_length (e ∷ es) [] [] h = refl
staying_length (e ∷ es) [] (y ∷ ys) h = absurd (omega (arith, h))
staying_length (e ∷ es) (x ∷ xs) [] h = absurd (omega (arith, h))
staying_length (true ∷ es) (x ∷ xs) (y ∷ ys) h = staying_length es xs ys (omega (arith, h))
staying_length (false ∷ es) (x ∷ xs) (y ∷ ys) h = ap suc (staying_length es xs ys (omega (arith, h)))

staying_map : (g : ℕ → ℕ) (es : List Bool) (xs : List ℕ) (k : ℕ) → k < length (staying es xs) → slice_index (staying es (map g xs)) k ≡ g (slice_index (staying es xs) k)
staying_map g [] [] k h = absurd (omega arith)
staying_map g [] (x ∷ xs) zero h = refl
staying_map g [] (x ∷ xs) (suc k) h = staying_map g [] xs k (omega arith)
staying_map g (e ∷ es) [] k h = absurd (omega arith)
staying_map g (true ∷ es) (x ∷ xs) k h = staying_map g es xs k h
staying_map g (false ∷ es) (x ∷ xs) zero h = refl
staying_map g (false ∷ es) (x ∷ xs) (suc k) h = staying_map g es xs k (omega arith)

pub staying-map : {X Y : Type 0} (g : X → Y) (es : List Bool) (xs : List X) → staying es (map g xs) ≡ map g (staying es xs)
staying-map g [] xs = refl
staying-map g (e ∷ es) [] = refl
staying-map g (true ∷ es) (x ∷ xs) = staying-map g es xs
staying-map g (false ∷ es) (x ∷ xs) = ap (λ ys. g x ∷ ys) (staying-map g es xs)

-- what stays at a place is what was at its old place
pub at_old_place : (es : List Bool) (n : ℕ) (xs : List ℕ) → length xs ≡ n → (k : ℕ) → k < length (staying es (range_with_len 0 n)) → slice_index xs (slice_index (staying es (range_with_len 0 n)) k) ≡ slice_index (staying es xs) k
at_old_place es n xs size k less =
    let all : xs ≡ map (λ i. slice_index xs i) (range_with_len 0 n) = fill_by_all (λ i. slice_index xs i) xs n 0 size (λ i within. refl) in
    sym (ap (λ (l : List ℕ). slice_index (staying es l) k) all ∙ staying_map (λ i. slice_index xs i) es (range_with_len 0 n) k less)

-- which is there
pub old_within : (es : List Bool) (a n k : ℕ) → k < length (staying es (range_with_len a n)) → slice_index (staying es (range_with_len a n)) k < a + n
old_within [] a n k h = omega (arith, h, length-range_with_len a n, get_or-range_with_len a n k 0 (omega (arith, h, length-range_with_len a n)))
old_within (e ∷ es) a zero k h = absurd (omega arith)
old_within (true ∷ es) a (suc n) k h = let r = old_within es (a + 1) n k h in omega (arith, r)
old_within (false ∷ es) a (suc n) zero h = omega arith
old_within (false ∷ es) a (suc n) (suc k) h = let r = old_within es (a + 1) n k (omega arith) in omega (arith, r)

module _ (old : List ℕ) (widths : List ℕ) (size : length widths ≡ length old) where
  -- in states that agree at the old places
  module _ (u v : State) (same : (k : ℕ) → k < length old → slice_index u (slice_index old k) ≡ slice_index v k) where
    word_lifted : (k : ℕ) → k < length widths → slice_index u (slice_index old k) ≡ slice_index v k
    word_lifted k h = same k (omega (arith, h, size))

    mutual
      value_lifted : (e : Expression) (w : ℕ) → HasWidth widths e w → value_of (lifted old e) u u ≡ value_of e v v
      value_lifted (number m n) w h = refl
      value_lifted (word k) w h = word_lifted k h.0
      value_lifted (next_word k) w h = word_lifted k h.0
      value_lifted (inverse m a) w h = let e = value_lifted a w h.1 in rw e refl
      value_lifted (binary o m a b) w h = ap (λ n. operated o m n (value_of (lifted old b) u u)) (value_lifted a w h.1) ∙ ap (operated o m (value_of a v v)) (value_lifted b w h.2)
      value_lifted (shifted d m a n) w h = ap (λ x. moved d m x n) (value_lifted a w h.1)
      value_lifted (choice f a b) w h =
          ap (λ t. cond t (value_of (lifted old a) u u) (value_of (lifted old b) u u)) (truth_lifted f h.0)
          ∙ ap (λ n. cond (holds f v v) n (value_of (lifted old b) u u)) (value_lifted a w h.1)
          ∙ ap (cond (holds f v v) (value_of a v v)) (value_lifted b w h.2)

      pub truth_lifted : (f : Proposition) → IsTyped widths f → holds_at (lifted_formula old f) u ≡ holds_at f v
      truth_lifted (truth b) h = refl
      truth_lifted (negation f) h = ap (λ t. not t) (truth_lifted f h)
      truth_lifted (connected c f g) h = ap (λ t. joined c t (holds_at (lifted_formula old g) u)) (truth_lifted f h.0) ∙ ap (joined c (holds_at f v)) (truth_lifted g h.1)
      truth_lifted (compared c a b) h = ap (λ n. is_so c n (value_of (lifted old b) u u)) (value_lifted a h.0 h.1) ∙ ap (is_so c (value_of a v v)) (value_lifted b h.0 h.2)

  -- over widths that agree there
  module _ (wide : List ℕ) (within : (k : ℕ) → k < length old → slice_index old k < length wide) (same : (k : ℕ) → k < length old → slice_index wide (slice_index old k) ≡ slice_index widths k) where
    mutual
      width_lifted : (e : Expression) (w : ℕ) → HasWidth widths e w → HasWidth wide (lifted old e) w
      width_lifted (number m n) w h = h
      width_lifted (word k) w h = (within k (omega (arith, h.0, size)), same k (omega (arith, h.0, size)) ∙ h.1)
      width_lifted (next_word k) w h = (within k (omega (arith, h.0, size)), same k (omega (arith, h.0, size)) ∙ h.1)
      width_lifted (inverse m a) w h = (h.0, width_lifted a w h.1)
      width_lifted (binary o m a b) w h = (h.0, width_lifted a w h.1, width_lifted b w h.2)
      width_lifted (shifted d m a n) w h = (h.0, width_lifted a w h.1, h.2)
      width_lifted (choice f a b) w h = (typed_lifted f h.0, width_lifted a w h.1, width_lifted b w h.2)

      pub typed_lifted : (f : Proposition) → IsTyped widths f → IsTyped wide (lifted_formula old f)
      typed_lifted (truth b) h = tt
      typed_lifted (negation f) h = typed_lifted f h
      typed_lifted (connected c f g) h = (typed_lifted f h.0, typed_lifted g h.1)
      typed_lifted (compared c a b) h = (h.0, width_lifted a h.0 h.1, width_lifted b h.0 h.2)
