-- There are as many conditions as names.
use Rattle.std.proofs.Common.{◌≡◌, ℕ, suc, ◌+◌, List, [], ◌∷◌, length, map, Some, refl, ap, ap₂, sym, ◌∙◌, length-append}
use Rattle.std.proofs.lemmas.List.{length-map}
use Rattle.std.specs.Prelude.{slice_get}
use Rattle.rg_tree.specs.Statements.{Statement, skip, assign, await, sequence, branch, loop, Specification}
use Rattle.rg_tree.specs.declared.line.Rule.{Rule}
use Rattle.rg_tree.specs.declared.line.Rule.TheVariants.{Basic, Atomic, Seq, If, Loop, Conseq}
use Rattle.rg_tree.specs.Lines.{LineTree}
use Rattle.rg_rules.specs.Derivations.{spec_of_line, first_spec, ConseqFits, RuleFits, LineFits, DerivationFits, conditions_from, conditions_of_rule, conditions_at, conditions_of_line, conditions_asked}
use Rattle.rg_rules.specs.Names.{condition_names, named, line_names}

conseq_count : (lines : List LineTree) (k n : ℕ) (spec : Specification) (is : List ℕ) → ConseqFits lines k n is → length (conditions_from spec (first_spec lines is)) ≡ 4
conseq_count lines k n spec [] h = absurd h
conseq_count lines k n spec (i ∷ []) h =
    let e : first_spec lines (i ∷ []) ≡ Some h.1.line.spec = ap spec_of_line h.1.found in
    ap (λ o. length (conditions_from spec o)) e
conseq_count lines k n spec (i ∷ j ∷ is) h = absurd h

rule_count : (lines : List LineTree) (k n : ℕ) (spec : Specification) (is : List ℕ) (rule : Rule) (s : Statement) → RuleFits lines k n spec is rule s → length (conditions_of_rule lines spec is rule s) ≡ length (condition_names rule)
rule_count lines k n spec is Basic (skip row) h = refl
rule_count lines k n spec is Basic (assign row a) h = refl
rule_count lines k n spec is Atomic (await row b act) h = refl
rule_count lines k n spec is Seq (sequence row s items) h = refl
rule_count lines k n spec is If (branch row b s t) h = refl
rule_count lines k n spec is Loop (loop row b s) h = refl
rule_count lines k n spec is Conseq s h = conseq_count lines k n spec is h
rule_count lines k n spec is _ _ h = absurd h

module _ (all : List Statement) (lines : List LineTree) where
  line_count : (k : ℕ) (line : LineTree) → LineFits all lines k line → length (conditions_of_line all lines line) ≡ length (condition_names line.rule)
  line_count k line h =
      ap (λ o. length (conditions_at lines line o)) h.1 ∙ rule_count lines k line.number line.spec line.premises line.rule h.0 h.2

  counts : (rest : List LineTree) (j : ℕ) → ((i : ℕ) (line : LineTree) → slice_get rest i ≡ Some line → (k : ℕ) × LineFits all lines k line) → length (conditions_asked all lines rest) ≡ length (line_names j rest)
  counts [] j fits = refl
  counts (line ∷ rest) j fits =
      let one = fits 0 line refl in
      let own = line_count one.0 line one.1 in
      let others = counts rest (j + 1) (λ i l h. fits (suc i) l h) in
      length-append (conditions_of_line all lines line) (conditions_asked all lines rest)
      ∙ ap₂ (λ (a b : ℕ). a + b) (own ∙ sym (length-map (condition_names line.rule) (named j))) others
      ∙ sym (length-append (map (named j) (condition_names line.rule)) (line_names (j + 1) rest))

-- of the lines of a derivation that fits
pub count_conditions : (all : List Statement) (lines : List LineTree) → DerivationFits all lines → length (conditions_asked all lines lines) ≡ length (line_names 1 lines)
count_conditions all lines fits = counts all lines lines 1 (λ i line h. (suc i, fits (suc i) line h))
