-- Loops over the places of a list.
use Rattle.std.proofs.Common.{◌≡◌, ◌∙◌, ℕ, zero, suc, ◌+◌, ◌-◌, ◌<◌, ◌≤◌, Bool, true, false, cond, ◌++◌, List, [], ◌∷◌, map, inl, inr, refl, arith, ap, sym, subst, append_assoc, append-nil}
use Rattle.std.proofs.lemmas.Bool.{and_parts, and_from, or_left, or_right, cases_eq, cases_lt}
use Rattle.std.specs.List.{list_all, list_any, filter, range_with_len}

-- the places from one on, where there is one
pub range_more : (i n : ℕ) → i < n → range_with_len i (n - i) ≡ i ∷ range_with_len (i + 1) (n - (i + 1))
range_more i n h =
    let size : n - i ≡ suc (n - (i + 1)) = omega (arith, h) in
    ap (λ m. range_with_len i m) size

-- and where there is none
pub range_over : (i n : ℕ) → n ≤ i → range_with_len i (n - i) ≡ []
range_over i n h =
    let size : n - i ≡ zero = omega (arith, h) in
    ap (λ m. range_with_len i m) size

-- a value for one place more
pub one_more : {X : Type 0} (f : ℕ → X) (i n : ℕ) (xs ys all : List X) (x : X) → i < n → ys ≡ xs ++ x ∷ [] → x ≡ f i → xs ++ map f (range_with_len i (n - i)) ≡ all → ys ++ map f (range_with_len (i + 1) (n - (i + 1))) ≡ all
one_more {X} f i n xs ys all x less went is so_far =
    let rest = map f (range_with_len (i + 1) (n - (i + 1))) in
    let more : map f (range_with_len i (n - i)) ≡ f i ∷ rest = ap (λ (ks : List ℕ). map f ks) (range_more i n less) in
    ap (λ (zs : List X). zs ++ rest) went ∙ append_assoc xs (x ∷ []) rest ∙ ap (λ (y : X). xs ++ y ∷ rest) is ∙ ap (λ (zs : List X). xs ++ zs) (sym more) ∙ so_far

-- all places have their values
pub no_more : {X : Type 0} (f : ℕ → X) (i n : ℕ) (xs all : List X) → n ≤ i → xs ++ map f (range_with_len i (n - i)) ≡ all → xs ≡ all
no_more {X} f i n xs all over so_far = sym (append-nil xs) ∙ sym (ap (λ (ks : List ℕ). xs ++ map f ks) (range_over i n over)) ∙ so_far

-- what passes at all places passes at each
pub all_at : (p : ℕ → Bool) (a n : ℕ) → list_all p (range_with_len a n) ≡ true → (k : ℕ) → a ≤ k → k < a + n → p k ≡ true
all_at p a zero h k from to = absurd (omega (arith, from, to))
all_at p a (suc n) h k from to =
    let parts = and_parts (p a) (list_all p (range_with_len (a + 1) n)) h in
    elim (cases_eq a k) [
      | inl e ↦ subst (λ j. p j ≡ true) e parts.0
      | inr ne ↦ all_at p (a + 1) n parts.1 k (after ne) (omega (arith, to))
    ]
  where
    after : (a ≡ k → ⊥) → a + 1 ≤ k
    after ne = elim (cases_lt a k) [ inl l ↦ omega (arith, l) | inr g ↦ absurd (ne (omega (arith, g, from))) ]

-- and what passes at each passes at all
pub all_from : (p : ℕ → Bool) (a n : ℕ) → ((k : ℕ) → a ≤ k → k < a + n → p k ≡ true) → list_all p (range_with_len a n) ≡ true
all_from p a zero h = refl
all_from p a (suc n) h =
    and_from (p a) (list_all p (range_with_len (a + 1) n)) (h a (omega arith) (omega arith))
    (all_from p (a + 1) n (λ k from to. h k (omega (arith, from)) (omega (arith, to))))

-- what passes at one place passes at some
pub any_at : (p : ℕ → Bool) (a n k : ℕ) → a ≤ k → k < a + n → p k ≡ true → list_any p (range_with_len a n) ≡ true
any_at p a zero k from to h = absurd (omega (arith, from, to))
any_at p a (suc n) k from to h =
    elim (cases_eq a k) [
      | inl e ↦ or_left (p a) (list_any p (range_with_len (a + 1) n)) (subst (λ j. p j ≡ true) (sym e) h)
      | inr ne ↦ or_right (p a) (list_any p (range_with_len (a + 1) n)) (any_at p (a + 1) n k (after ne) (omega (arith, to)) h)
    ]
  where
    after : (a ≡ k → ⊥) → a + 1 ≤ k
    after ne = elim (cases_lt a k) [ inl l ↦ omega (arith, l) | inr g ↦ absurd (ne (omega (arith, g, from))) ]

-- a place more is kept
pub one_kept : (p : ℕ → Bool) (i n : ℕ) (xs ys all : List ℕ) → i < n → p i ≡ true → ys ≡ xs ++ i ∷ [] → xs ++ filter p (range_with_len i (n - i)) ≡ all → ys ++ filter p (range_with_len (i + 1) (n - (i + 1))) ≡ all
one_kept p i n xs ys all less passes went so_far =
    let rest = filter p (range_with_len (i + 1) (n - (i + 1))) in
    let more : filter p (range_with_len i (n - i)) ≡ i ∷ rest = ap (λ (ks : List ℕ). filter p ks) (range_more i n less) ∙ ap (λ (b : Bool). cond b (i ∷ rest) rest) passes in
    ap (λ (zs : List ℕ). zs ++ rest) went ∙ append_assoc xs (i ∷ []) rest ∙ ap (λ (zs : List ℕ). xs ++ zs) (sym more) ∙ so_far

-- a place more is left out
pub one_left : (p : ℕ → Bool) (i n : ℕ) (xs ys all : List ℕ) → i < n → p i ≡ false → ys ≡ xs → xs ++ filter p (range_with_len i (n - i)) ≡ all → ys ++ filter p (range_with_len (i + 1) (n - (i + 1))) ≡ all
one_left p i n xs ys all less fails same so_far =
    let rest = filter p (range_with_len (i + 1) (n - (i + 1))) in
    let more : filter p (range_with_len i (n - i)) ≡ rest = ap (λ (ks : List ℕ). filter p ks) (range_more i n less) ∙ ap (λ (b : Bool). cond b (i ∷ rest) rest) fails in
    ap (λ (zs : List ℕ). zs ++ rest) same ∙ ap (λ (zs : List ℕ). xs ++ zs) (sym more) ∙ so_far
