-- Lines that others follow from are typed.
use Rattle.std.proofs.Common.{◌≡◌, ℕ, zero, suc, List, [], ◌∷◌, Option, Some, None, refl, subst}
use Rattle.std.specs.Prelude.{slice_get}
use Rattle.rg_words.specs.Layout.{Word}
use Rattle.rg_tree.specs.Statements.{Specification}
use Rattle.rg_tree.specs.Programs.{nth}
use Rattle.rg_tree.specs.TypedPrograms.{IsTypedSpecification}
use Rattle.rg_tree.specs.Lines.{LineTree, AreTypedLines}
use Rattle.rg_conditions.specs.Asked.{spec_of_line, first_spec}

get_line_typed : (words : List Word) (lines : List LineTree) (i : ℕ) (line : LineTree) → AreTypedLines words lines → slice_get lines i ≡ Some line → IsTypedSpecification words line.spec
get_line_typed words [] i line h e = cc e
get_line_typed words (x ∷ lines) zero line h e = let same : x ≡ line = cc e in subst (λ (l : LineTree). IsTypedSpecification words l.spec) same h.0
get_line_typed words (x ∷ lines) (suc i) line h e = get_line_typed words lines i line h.1 e

nth_line_typed : (words : List Word) (lines : List LineTree) (i : ℕ) (line : LineTree) → AreTypedLines words lines → nth lines i ≡ Some line → IsTypedSpecification words line.spec
nth_line_typed words lines zero line h e = cc e
nth_line_typed words lines (suc i) line h e = get_line_typed words lines i line h e

-- the formulas of the first premise of typed lines are typed
pub first_typed : (words : List Word) (lines : List LineTree) (is : List ℕ) (spec : Specification) → AreTypedLines words lines → first_spec lines is ≡ Some spec → IsTypedSpecification words spec
first_typed words lines [] spec h e = cc e
first_typed words lines (i ∷ is) spec h e = by_line (nth lines i) refl e
  where
    by_line : (o : Option LineTree) → nth lines i ≡ o → spec_of_line o ≡ Some spec → IsTypedSpecification words spec
    by_line None found e = cc e
    by_line (Some line) found e =
        let same : line.spec ≡ spec = cc e in
        subst (IsTypedSpecification words) same (nth_line_typed words lines i line h found)
