-- one bit of an operation bit by bit
use Rattle.std.proofs.Common.{◌≡◌, ℕ, zero, suc, ◌+◌, ◌<◌, ◌≤◌, min, List, [], ◌∷◌, ◌++◌, length, get_or, drop, refl, sym, ap, ◌∙◌, arith, subst, append-nil, add-one}
use Rattle.rg_gates.specs.declared.Lit.{Lit}
use Rattle.rg_gates.specs.declared.Lit.TheVariants.{True}
use Rattle.rg_gates.specs.Circuit.{Circuit, variable_count}
use Rattle.rg_gates.specs.Extends.{Extends}
use Rattle.rg_gates.proofs.Growth.{Extends-refl, Extends-trans, IsIn-extends}
use Rattle.rg_rows.specs.Rows.{bit_of, bits_of}
use Rattle.rg_rows.specs.Within.{IsOperationIn}
use Rattle.rg_rows.specs.declared.rows.BitOperation.{BitOperation}
use Rattle.rg_rows.specs.declared.rows.BitOperation.TheVariants.{And, Or, Xor, Pick}
use Rattle.rg_rows.proofs.RowSteps.{prepended, prepended-more, IsRowIn-push, IsRowIn-at}
use Rattle.rg_rows.proofs.RowsMean.{bits-grows}
use Rattle.rg_rows.proofs.RowsIn.{IsRowIn-extends, IsRowIn-nil}

pub IsOperationIn-extends : {c d : Circuit} → Extends c d → (o : BitOperation) → IsOperationIn c o → IsOperationIn d o
IsOperationIn-extends e And h = tt
IsOperationIn-extends e Or h = tt
IsOperationIn-extends e Xor h = tt
IsOperationIn-extends e (Pick l) h = IsIn-extends e h

module _ (o : BitOperation) where
  abbrev after_bit : List Lit → List Lit → Lit × Circuit → List Lit × Circuit
  after_bit as_ bs r = prepended (r.0 ∷ []) (bits_of o as_ bs r.1)

  bits-step : (as_ bs : List Lit) (i : ℕ) (s : Lit) (g h : Circuit) → i < min (length as_) (length bs) → bit_of o (get_or as_ i True) (get_or bs i True) g ≡ (s, h)
      → bits_of o (drop i as_) (drop i bs) g ≡ prepended (s ∷ []) (bits_of o (drop (suc i) as_) (drop (suc i) bs) h)
  unfolding bits_of
  bits-step [] bs i s g h small f = absurd (omega arith)
  bits-step (a ∷ as_) [] i s g h small f = absurd (omega arith)
  bits-step (a ∷ as_) (b ∷ bs) zero s g h small f = ap (after_bit as_ bs) f
  bits-step (a ∷ as_) (b ∷ bs) (suc i) s g h small f = bits-step as_ bs i s g h (omega arith) f

  bits-end : (as_ bs : List Lit) (i : ℕ) (g : Circuit) → min (length as_) (length bs) ≤ i → bits_of o (drop i as_) (drop i bs) g ≡ ([], g)
  unfolding bits_of
  bits-end [] bs zero g h = refl
  bits-end [] bs (suc i) g h = refl
  bits-end (a ∷ as_) [] zero g h = refl
  bits-end (a ∷ as_) [] (suc i) g h = elim (drop i as_) as (λ xs. bits_of o xs [] g ≡ ([], g)) [ [] ↦ refl | x ∷ xs ↦ refl ]
  bits-end (a ∷ as_) (b ∷ bs) zero g h = absurd (omega arith)
  bits-end (a ∷ as_) (b ∷ bs) (suc i) g h = bits-end as_ bs i g (omega arith)

  bits-full : (as_ bs : List Lit) (i : ℕ) (g : Circuit) (n : ℕ) → i < min (length as_) (length bs) → n < variable_count (bit_of o (get_or as_ i True) (get_or bs i True) g).1 → n < variable_count (bits_of o (drop i as_) (drop i bs) g).1
  unfolding bits_of
  bits-full [] bs i g n small h = absurd (omega arith)
  bits-full (a ∷ as_) [] i g n small h = absurd (omega arith)
  bits-full (a ∷ as_) (b ∷ bs) zero g n small h = let r = bit_of o a b g in omega (arith, h, bits-grows o as_ bs r.1)
  bits-full (a ∷ as_) (b ∷ bs) (suc i) g n small h = bits-full as_ bs i g n (omega arith) h

  -- one turn of the loop, its end, and a bit past the limit
  module _ (as_ bs : List Lit) (g0 g : Circuit) (row : List Lit) (i : ℕ) (so_far : bits_of o as_ bs g0 ≡ prepended row (bits_of o (drop i as_) (drop i bs) g)) where
    pub bits-turn : (s : Lit) (h : Circuit) → i < min (length as_) (length bs) → bit_of o (get_or as_ i True) (get_or bs i True) g ≡ (s, h)
        → bits_of o as_ bs g0 ≡ prepended (row ++ s ∷ []) (bits_of o (drop (i + 1) as_) (drop (i + 1) bs) h)
    bits-turn s h small f =
        so_far ∙ ap (prepended row) (bits-step as_ bs i s g h small f) ∙ prepended-more row s _ ∙ ap (λ j. prepended (row ++ s ∷ []) (bits_of o (drop j as_) (drop j bs) h)) (sym (add-one i))

    pub bits-done : min (length as_) (length bs) ≤ i → bits_of o as_ bs g0 ≡ (row, g)
    bits-done h = so_far ∙ ap (prepended row) (bits-end as_ bs i g h) ∙ ap (λ xs. let q : List Lit × Circuit = (xs, g) in q) (append-nil row)

    pub bits-past : (n : ℕ) → i < min (length as_) (length bs) → n < variable_count (bit_of o (get_or as_ i True) (get_or bs i True) g).1 → n < variable_count (bits_of o as_ bs g0).1
    bits-past n small h =
        let P : List Lit × Circuit → Type 0 = λ p. n < variable_count p.1 in
        subst P (sym so_far) (bits-full as_ bs i g n small h)

pub ruleset bit_steps = (Extends-refl, Extends-trans, IsIn-extends, IsRowIn-extends, IsRowIn-nil, IsRowIn-push, IsRowIn-at, IsOperationIn-extends)
