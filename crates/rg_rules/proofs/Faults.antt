-- Lines and parts, one after another: which of them are without fault.
use Rattle.std.proofs.Common.{◌≡◌, ℕ, zero, suc, ◌<◌, List, ◌∷◌, Some, None, ◌↔◌, refl, ap, subst, ◌∙◌, sym, ⊎_elim, ◌⊎◌, inl, inr, arith}
use Rattle.rg_tree.specs.Statements.{Statement, Specification}
use Rattle.rg_tree.specs.Programs.{nth}
use Rattle.rg_tree.specs.Lines.{LineTree}
use Rattle.rg_rules.specs.Faults.{IsLineAnswer, IsDerived, AreFaultlessBefore}

pub derived_here : (line : LineTree) (lines : List LineTree) (n : ℕ) (spec : Specification) → line.number ≡ n → line.spec ≡ spec → IsDerived (line ∷ lines) n spec
derived_here line lines n spec number formulas = record { place = 1; line = line; found = refl; same_number = number; same_spec = formulas }

derived_later : (x : LineTree) (lines : List LineTree) (n : ℕ) (spec : Specification) → IsDerived lines n spec → IsDerived (x ∷ lines) n spec
derived_later x lines n spec d = record { place = suc d.place; line = d.line; found = later d.place d.found; same_number = d.same_number; same_spec = d.same_spec }
  where
    later : (k : ℕ) → nth lines k ≡ Some d.line → nth (x ∷ lines) (suc k) ≡ Some d.line
    later zero h = cc h
    later (suc k) h = h

derived_rest : (x : LineTree) (lines : List LineTree) (n : ℕ) (spec : Specification) → (x.number ≡ n → x.spec ≡ spec → ⊥) → IsDerived (x ∷ lines) n spec → IsDerived lines n spec
derived_rest x lines n spec other d = by_place d.place d.found
  where
    by_place : (k : ℕ) → nth (x ∷ lines) k ≡ Some d.line → IsDerived lines n spec
    by_place zero h = cc h
    by_place (suc zero) h =
        let same : x ≡ d.line = cc h in
        absurd (other (ap (λ l. l.number) same ∙ d.same_number) (ap (λ l. l.spec) same ∙ d.same_spec))
    by_place (suc (suc k)) h = record { place = suc k; line = d.line; found = h; same_number = d.same_number; same_spec = d.same_spec }

-- what isn't derived by the first line is derived by the others or not at all
pub derived_else : (x : LineTree) (lines : List LineTree) (n : ℕ) (spec : Specification) → (x.number ≡ n → x.spec ≡ spec → ⊥) → IsDerived (x ∷ lines) n spec ↔ IsDerived lines n spec
derived_else x lines n spec other = (derived_rest x lines n spec other, derived_later x lines n spec)

pub faultless_more : (all : List Statement) (lines : List LineTree) (k : ℕ) (x : LineTree) → AreFaultlessBefore all lines k → nth lines k ≡ Some x → IsLineAnswer all lines k x None → AreFaultlessBefore all lines (suc k)
faultless_more all lines k x before at answer i line less found =
    ⊎_elim (λ l. before i line l found) (λ e. let there : i ≡ k = e in let same : x ≡ line = cc (sym at ∙ ap (nth lines) (sym e) ∙ found) in subst (λ j. IsLineAnswer all lines j line None) (sym e) (subst (λ l. IsLineAnswer all lines k l None) same answer)) (split i k less)
  where
    split : (i k : ℕ) → i < suc k → (i < k) ⊎ (i ≡ k)
    split zero zero h = inr refl
    split zero (suc k) h = inl (omega arith)
    split (suc i) zero h = absurd (omega arith)
    split (suc i) (suc k) h = ⊎_elim (λ l. inl (omega (arith, l))) (λ e. inr (ap suc e)) (split i k (omega (arith, h)))
