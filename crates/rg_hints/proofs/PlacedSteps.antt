-- sections at the places of their conditions
use Rattle.std.proofs.Common.{◌≡◌, ℕ, ◌+◌, ◌<◌, Option, None, List, [], ◌∷◌, ◌++◌, length, get_or, sym, subst, ⊎_elim, arith, length-append}
use Rattle.std.proofs.lemmas.Bool.Decides.{eqb_tells}
use Rattle.std.proofs.Math.ListN.{get_or-append}
use Rattle.std.proofs.Math.Seq.{get_or-append_seam}
use Rattle.rg_hint_lines.specs.declared.sections.SectionBytes.{SectionBytes}
use Rattle.rg_hints.specs.Placed.{IsPlaced, ArePlaced}

-- one more section, or none
pub placed_more : (sections : List SectionBytes) (placed : List (Option SectionBytes)) (s : Option SectionBytes) (number : ℕ) → number ≡ length placed + 1 → ArePlaced sections placed → IsPlaced sections number s → ArePlaced sections (placed ++ s ∷ [])
placed_more sections placed s number is before one i small =
    ⊎_elim
    (λ last. subst (λ (j : ℕ). IsPlaced sections (j + 1) (get_or (placed ++ s ∷ []) j None)) (sym last.1) (subst (IsPlaced sections (length placed + 1)) (sym (get_or-append_seam placed s [] None)) (subst (λ (n : ℕ). IsPlaced sections n s) is one)))
    (λ other. let inside : i < length placed = omega (arith, other.1, length-append placed (s ∷ []), small) in
    subst (IsPlaced sections (i + 1)) (sym (get_or-append placed (s ∷ []) None i inside)) (before i inside))
    (eqb_tells i (length placed))
