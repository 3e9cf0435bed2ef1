-- Assignments, of which the first ones are left out.
use Rattle.std.proofs.Common.{◌≡◌, ◌∙◌, ℕ, zero, suc, ◌<◌, List, [], ◌∷◌, length, map, drop, refl, ap, sym, arith}
use Rattle.rg_words.specs.Layout.{Word}
use Rattle.rg_c_plan.specs.declared.kind.Kind.{Kind}
use Rattle.rg_c.specs.declared.tree.Given.{Given}
use Rattle.rg_c.specs.Together.{all_given}
use Rattle.rg_c.specs.View.{given}

-- one more of them is left out
pub skipped : (words : List Word) (kinds : List Kind) (gs : List Given) (at n m next : ℕ) → at < length gs → n ≡ suc m → next ≡ suc at →
    all_given words kinds n (map given (drop at gs)) ≡ all_given words kinds m (map given (drop next gs))
skipped words kinds gs at n m next less size after =
    ap (λ k. all_given words kinds k (map given (drop at gs))) size ∙ one gs at less ∙ ap (λ k. all_given words kinds m (map given (drop k gs))) (sym after)
  where
    one : (gs : List Given) (at : ℕ) → at < length gs → all_given words kinds (suc m) (map given (drop at gs)) ≡ all_given words kinds m (map given (drop (suc at) gs))
    one [] at less = absurd (omega (arith, less))
    one (g ∷ gs) zero less = refl
    one (g ∷ gs) (suc at) less = one gs at (omega (arith, less))

-- one more is dropped
pub dropped_next : (gs : List Given) (at next : ℕ) → next ≡ suc at → drop 1 (drop at gs) ≡ drop next gs
dropped_next gs at next after = one gs at ∙ ap (λ k. drop k gs) (sym after)
  where
    one : (gs : List Given) (at : ℕ) → drop 1 (drop at gs) ≡ drop (suc at) gs
    one [] zero = refl
    one [] (suc at) = refl
    one (g ∷ gs) zero = refl
    one (g ∷ gs) (suc at) = one gs at
