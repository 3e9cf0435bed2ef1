-- one bit of a loop over two rows
use Rattle.std.proofs.Common.{◌≡◌, ℕ, zero, suc, ◌+◌, ◌<◌, ◌≤◌, Bool, nat_lt, min, List, [], ◌∷◌, ◌++◌, length, get_or, drop, refl, sym, ap, ◌∙◌, arith, subst, append_assoc, append-nil, add-one, length-append, inl, inr}
use Rattle.std.proofs.lemmas.Bool.Decides.{nat_tests}
use Rattle.rg_gates.specs.declared.Lit.{Lit}
use Rattle.rg_gates.specs.declared.Lit.TheVariants.{True}
use Rattle.rg_gates.specs.Circuit.{Circuit, variable_count}
use Rattle.rg_gates.specs.Extends.{IsIn}
use Rattle.rg_gates.proofs.Growth.{grows, Extends-refl, Extends-trans, IsIn-extends}
use Rattle.std.proofs.lemmas.List.{get_or_append_left, get_or_push, get_or_past}
use Rattle.std.proofs.lemmas.Bool.{cases_lt}
use Rattle.rg_rows.specs.Rows.{is_more, sum_bit_of, sum_of}
use Rattle.rg_rows.proofs.RowsMean.{sum-grows}
use Rattle.rg_rows.specs.Within.{IsRowIn}
use Rattle.rg_rows.proofs.RowsIn.{IsRowIn-extends, IsRowIn-nil}

pub more-at : (as_ bs : List Lit) (j : ℕ) → is_more (drop j as_) (drop j bs) ≡ nat_lt j (min (length as_) (length bs))
more-at [] bs zero = grind (arith, nat_tests)
more-at [] bs (suc j) = grind (arith, nat_tests)
more-at (a ∷ as_) [] zero = grind (arith, nat_tests)
more-at (a ∷ as_) [] (suc j) = elim (drop j as_) as (λ xs. is_more xs [] ≡ nat_lt (suc j) (min (length (a ∷ as_)) 0)) [ [] ↦ grind (arith, nat_tests) | x ∷ xs ↦ grind (arith, nat_tests) ]
more-at (a ∷ as_) (b ∷ bs) zero = grind (arith, nat_tests)
more-at (a ∷ as_) (b ∷ bs) (suc j) = more-at as_ bs j ∙ grind (arith, nat_tests)

-- what is built already, before what is built next
abbrev pub prepended : List Lit → List Lit × Circuit → List Lit × Circuit
prepended xs p = (xs ++ p.0, p.1)

pub prepended-more : (xs : List Lit) (x : Lit) (p : List Lit × Circuit) → prepended xs (prepended (x ∷ []) p) ≡ prepended (xs ++ x ∷ []) p
prepended-more xs x p = ap (λ ys. let q : List Lit × Circuit = (ys, p.1) in q) (sym (append_assoc xs (x ∷ []) p.0))

abbrev after_bit : List Lit → List Lit → (Lit × Lit) × Circuit → List Lit × Circuit
after_bit as_ bs r = prepended (r.0.0 ∷ []) (sum_of as_ bs r.0.1 r.1)

sum-cons : (a b : Lit) (as_ bs : List Lit) (c s d : Lit) (g h : Circuit) (more : Bool) → is_more as_ bs ≡ more → sum_bit_of a b c more g ≡ ((s, d), h) → sum_of (a ∷ as_) (b ∷ bs) c g ≡ prepended (s ∷ []) (sum_of as_ bs d h)
unfolding sum_of
sum-cons a b as_ bs c s d g h more e f = ap (λ m. after_bit as_ bs (sum_bit_of a b c m g)) e ∙ ap (after_bit as_ bs) f

pub sum-step : (as_ bs : List Lit) (i : ℕ) (c s d : Lit) (g h : Circuit) (more : Bool) → i < min (length as_) (length bs) → is_more (drop (suc i) as_) (drop (suc i) bs) ≡ more → sum_bit_of (get_or as_ i True) (get_or bs i True) c more g ≡ ((s, d), h)
    → sum_of (drop i as_) (drop i bs) c g ≡ prepended (s ∷ []) (sum_of (drop (suc i) as_) (drop (suc i) bs) d h)
sum-step [] bs i c s d g h more small e f = absurd (omega arith)
sum-step (a ∷ as_) [] i c s d g h more small e f = absurd (omega arith)
sum-step (a ∷ as_) (b ∷ bs) zero c s d g h more small e f = sum-cons a b as_ bs c s d g h more e f
sum-step (a ∷ as_) (b ∷ bs) (suc i) c s d g h more small e f = sum-step as_ bs i c s d g h more (omega arith) e f

pub sum-end : (as_ bs : List Lit) (i : ℕ) (c : Lit) (g : Circuit) → min (length as_) (length bs) ≤ i → sum_of (drop i as_) (drop i bs) c g ≡ ([], g)
unfolding sum_of
sum-end [] bs zero c g h = refl
sum-end [] bs (suc i) c g h = refl
sum-end (a ∷ as_) [] zero c g h = refl
sum-end (a ∷ as_) [] (suc i) c g h = elim (drop i as_) as (λ xs. sum_of xs [] c g ≡ ([], g)) [ [] ↦ refl | x ∷ xs ↦ refl ]
sum-end (a ∷ as_) (b ∷ bs) zero c g h = absurd (omega arith)
sum-end (a ∷ as_) (b ∷ bs) (suc i) c g h = sum-end as_ bs i c g (omega arith)

-- a bit that is past the limit
sum-full-cons : (a b : Lit) (as_ bs : List Lit) (c : Lit) (g : Circuit) (more : Bool) (n : ℕ) → is_more as_ bs ≡ more → n < variable_count (sum_bit_of a b c more g).1 → n < variable_count (sum_of (a ∷ as_) (b ∷ bs) c g).1
unfolding sum_of
sum-full-cons a b as_ bs c g more n e h =
    let P : Bool → Type 0 = λ m. n < variable_count (sum_bit_of a b c m g).1 in
    let big = subst P (sym e) h in
    let r = sum_bit_of a b c (is_more as_ bs) g in
    omega (arith, big, sum-grows as_ bs r.0.1 r.1)

pub sum-full : (as_ bs : List Lit) (i : ℕ) (c : Lit) (g : Circuit) (more : Bool) (n : ℕ) → i < min (length as_) (length bs) → is_more (drop (suc i) as_) (drop (suc i) bs) ≡ more
    → n < variable_count (sum_bit_of (get_or as_ i True) (get_or bs i True) c more g).1 → n < variable_count (sum_of (drop i as_) (drop i bs) c g).1
sum-full [] bs i c g more n small e h = absurd (omega arith)
sum-full (a ∷ as_) [] i c g more n small e h = absurd (omega arith)
sum-full (a ∷ as_) (b ∷ bs) zero c g more n small e h = sum-full-cons a b as_ bs c g more n e h
sum-full (a ∷ as_) (b ∷ bs) (suc i) c g more n small e h = sum-full as_ bs i c g more n (omega arith) e h

-- one turn of the loop, its end, and a bit past the limit
module _ (as_ bs : List Lit) (c0 c : Lit) (g0 g : Circuit) (row : List Lit) (i : ℕ) (so_far : sum_of as_ bs c0 g0 ≡ prepended row (sum_of (drop i as_) (drop i bs) c g)) where
  pub sum-turn : (s d : Lit) (h : Circuit) (more : Bool) → i < min (length as_) (length bs) → nat_lt (i + 1) (min (length as_) (length bs)) ≡ more → sum_bit_of (get_or as_ i True) (get_or bs i True) c more g ≡ ((s, d), h)
      → sum_of as_ bs c0 g0 ≡ prepended (row ++ s ∷ []) (sum_of (drop (i + 1) as_) (drop (i + 1) bs) d h)
  sum-turn s d h more small e f =
      let e2 = more-at as_ bs (i + 1) ∙ e in
      let step = sum-step as_ bs i c s d g h more small (ap (λ j. is_more (drop j as_) (drop j bs)) (sym (add-one i)) ∙ e2) f in
      so_far ∙ ap (prepended row) step ∙ prepended-more row s _ ∙ ap (λ j. prepended (row ++ s ∷ []) (sum_of (drop j as_) (drop j bs) d h)) (sym (add-one i))

  pub sum-done : min (length as_) (length bs) ≤ i → sum_of as_ bs c0 g0 ≡ (row, g)
  sum-done h = so_far ∙ ap (prepended row) (sum-end as_ bs i c g h) ∙ ap (λ xs. let q : List Lit × Circuit = (xs, g) in q) (append-nil row)

  pub sum-past : (more : Bool) (n : ℕ) → i < min (length as_) (length bs) → nat_lt (i + 1) (min (length as_) (length bs)) ≡ more → n < variable_count (sum_bit_of (get_or as_ i True) (get_or bs i True) c more g).1 → n < variable_count (sum_of as_ bs c0 g0).1
  sum-past more n small e h =
      let P : List Lit × Circuit → Type 0 = λ p. n < variable_count p.1 in
      subst P (sym so_far) (sum-full as_ bs i c g more n small (ap (λ j. is_more (drop j as_) (drop j bs)) (sym (add-one i)) ∙ more-at as_ bs (i + 1) ∙ e) h)

-- a row with one more literal
pub IsRowIn-push : {c : Circuit} {row : List Lit} {l : Lit} → IsRowIn c row → IsIn c l → IsRowIn c (row ++ l ∷ [])
IsRowIn-push {c} {row} {l} h last = record {
  bits = λ k.
      let P : Lit → Type 0 = λ x. IsIn c x in
      elim (cases_lt k (length row)) [
        | inl less ↦ subst P (sym (get_or_append_left row (l ∷ []) True k less)) (h.bits k)
        | inr ge ↦ elim (cases_lt (length row) k) [
          | inl past ↦ subst P (sym (get_or_past (row ++ l ∷ []) k True (omega (arith, length-append row (l ∷ []))))) (record { bound = tt })
          | inr le ↦ subst P (sym (get_or_push row l True k (omega arith))) last
        ]
      ];
}

pub IsRowIn-at : {c : Circuit} {row : List Lit} → IsRowIn c row → (k : ℕ) → IsIn c (get_or row k True)
IsRowIn-at h k = h.bits k

pub ruleset row_steps = (Extends-refl, Extends-trans, IsIn-extends, IsRowIn-extends, IsRowIn-nil, IsRowIn-push, IsRowIn-at)
