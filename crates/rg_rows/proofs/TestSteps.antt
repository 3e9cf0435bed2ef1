-- one bit of a test
use Rattle.std.proofs.Common.{◌≡◌, ℕ, zero, suc, ◌+◌, ◌<◌, ◌≤◌, min, List, [], ◌∷◌, length, get_or, drop, refl, sym, ap, ◌∙◌, arith, subst, add-one}
use Rattle.rg_gates.specs.declared.Lit.{Lit}
use Rattle.rg_gates.specs.declared.Lit.TheVariants.{True}
use Rattle.rg_gates.specs.Circuit.{Circuit, variable_count}
use Rattle.rg_gates.proofs.Growth.{Extends-refl, Extends-trans, IsIn-extends}
use Rattle.rg_rows.specs.Rows.{test_bit_of, test_of}
use Rattle.rg_rows.specs.declared.rows.Test.{Test}
use Rattle.rg_rows.proofs.RowSteps.{IsRowIn-at}
use Rattle.rg_rows.proofs.RowsMean.{test-grows}
use Rattle.rg_rows.proofs.RowsIn.{IsRowIn-extends}

module _ (t : Test) where
  test-step : (as_ bs : List Lit) (i : ℕ) (c d : Lit) (g h : Circuit) → i < min (length as_) (length bs) → test_bit_of t (get_or as_ i True) (get_or bs i True) c g ≡ (d, h)
      → test_of t (drop i as_) (drop i bs) c g ≡ test_of t (drop (suc i) as_) (drop (suc i) bs) d h
  unfolding test_of
  test-step [] bs i c d g h small f = absurd (omega arith)
  test-step (a ∷ as_) [] i c d g h small f = absurd (omega arith)
  test-step (a ∷ as_) (b ∷ bs) zero c d g h small f = ap (λ (r : Lit × Circuit). test_of t as_ bs r.0 r.1) f
  test-step (a ∷ as_) (b ∷ bs) (suc i) c d g h small f = test-step as_ bs i c d g h (omega arith) f

  test-end : (as_ bs : List Lit) (i : ℕ) (c : Lit) (g : Circuit) → min (length as_) (length bs) ≤ i → test_of t (drop i as_) (drop i bs) c g ≡ (c, g)
  unfolding test_of
  test-end [] bs zero c g h = refl
  test-end [] bs (suc i) c g h = refl
  test-end (a ∷ as_) [] zero c g h = refl
  test-end (a ∷ as_) [] (suc i) c g h = elim (drop i as_) as (λ xs. test_of t xs [] c g ≡ (c, g)) [ [] ↦ refl | x ∷ xs ↦ refl ]
  test-end (a ∷ as_) (b ∷ bs) zero c g h = absurd (omega arith)
  test-end (a ∷ as_) (b ∷ bs) (suc i) c g h = test-end as_ bs i c g (omega arith)

  test-full : (as_ bs : List Lit) (i : ℕ) (c : Lit) (g : Circuit) (n : ℕ) → i < min (length as_) (length bs) → n < variable_count (test_bit_of t (get_or as_ i True) (get_or bs i True) c g).1 → n < variable_count (test_of t (drop i as_) (drop i bs) c g).1
  unfolding test_of
  test-full [] bs i c g n small h = absurd (omega arith)
  test-full (a ∷ as_) [] i c g n small h = absurd (omega arith)
  test-full (a ∷ as_) (b ∷ bs) zero c g n small h = let r = test_bit_of t a b c g in omega (arith, h, test-grows t as_ bs r.0 r.1)
  test-full (a ∷ as_) (b ∷ bs) (suc i) c g n small h = test-full as_ bs i c g n (omega arith) h

  -- one turn of the loop, its end, and a bit past the limit
  module _ (as_ bs : List Lit) (c0 c : Lit) (g0 g : Circuit) (i : ℕ) (so_far : test_of t as_ bs c0 g0 ≡ test_of t (drop i as_) (drop i bs) c g) where
    pub test-turn : (d : Lit) (h : Circuit) → i < min (length as_) (length bs) → test_bit_of t (get_or as_ i True) (get_or bs i True) c g ≡ (d, h)
        → test_of t as_ bs c0 g0 ≡ test_of t (drop (i + 1) as_) (drop (i + 1) bs) d h
    test-turn d h small f = so_far ∙ test-step as_ bs i c d g h small f ∙ ap (λ j. test_of t (drop j as_) (drop j bs) d h) (sym (add-one i))

    pub test-done : min (length as_) (length bs) ≤ i → test_of t as_ bs c0 g0 ≡ (c, g)
    test-done h = so_far ∙ test-end as_ bs i c g h

    pub test-past : (n : ℕ) → i < min (length as_) (length bs) → n < variable_count (test_bit_of t (get_or as_ i True) (get_or bs i True) c g).1 → n < variable_count (test_of t as_ bs c0 g0).1
    test-past n small h =
        let P : Lit × Circuit → Type 0 = λ p. n < variable_count p.1 in
        subst P (sym so_far) (test-full as_ bs i c g n small h)

pub ruleset test_steps = (Extends-refl, Extends-trans, IsIn-extends, IsRowIn-extends, IsRowIn-at)
