-- Loops over the places of a list.
use Rattle.std.proofs.Common.{◌≡◌, ◌∙◌, ℕ, zero, suc, ◌+◌, ◌-◌, ◌<◌, ◌≤◌, ◌++◌, List, [], ◌∷◌, map, arith, ap, sym, append_assoc}
use Rattle.std.specs.List.{range_with_len}

-- the places from one on, where there is one
pub range_more : (i n : ℕ) → i < n → range_with_len i (n - i) ≡ i ∷ range_with_len (i + 1) (n - (i + 1))
range_more i n h =
    let size : n - i ≡ suc (n - (i + 1)) = omega (arith, h) in
    ap (λ m. range_with_len i m) size

-- and where there is none
pub range_over : (i n : ℕ) → n ≤ i → range_with_len i (n - i) ≡ []
range_over i n h =
    let size : n - i ≡ zero = omega (arith, h) in
    ap (λ m. range_with_len i m) size

-- a value for one place more
pub one_more : {X : Type 0} (f : ℕ → X) (i n : ℕ) (xs ys all : List X) (x : X) → i < n → ys ≡ xs ++ x ∷ [] → x ≡ f i → xs ++ map f (range_with_len i (n - i)) ≡ all → ys ++ map f (range_with_len (i + 1) (n - (i + 1))) ≡ all
one_more {X} f i n xs ys all x less went is so_far =
    let rest = map f (range_with_len (i + 1) (n - (i + 1))) in
    let more : map f (range_with_len i (n - i)) ≡ f i ∷ rest = ap (λ (ks : List ℕ). map f ks) (range_more i n less) in
    ap (λ (zs : List X). zs ++ rest) went ∙ append_assoc xs (x ∷ []) rest ∙ ap (λ (y : X). xs ++ y ∷ rest) is ∙ ap (λ (zs : List X). xs ++ zs) (sym more) ∙ so_far
