-- Formulas that are false at given values.
use Rattle.std.specs.Prelude.{◌≡◌, false, List, All}
use Rattle.rg_words.specs.Layout.{Word}
use Rattle.rg_words.specs.States.{IsState}
use Rattle.rg_tree.specs.Trees.{Proposition}
use Rattle.rg_tree.specs.Meaning.{holds}
use Rattle.rg_parse.specs.Shown.{SpellsFormula}
use Rattle.rg_outline_reports.specs.declared.reports.Claim.{Claim}

-- the values of a claim are states of these words, and the formula is false in them
pub record IsFalseAt (words : List Word) (formula : Proposition) (claim : Claim) : Type 0 where
  pub first : IsState words claim.before.items
  pub second : IsState words claim.after.items
  pub is_false : holds formula claim.before.items claim.after.items ≡ false

-- the bytes of a claim spell a formula over these words that is false at its values
pub record IsSo (words : List Word) (claim : Claim) : Type 0 where
  pub formula : Proposition
  pub spells : SpellsFormula words claim.formula.items formula
  pub is_false : IsFalseAt words formula claim

-- each of these claims is so
abbrev pub AreSo : List Word → List Claim → Type 0
AreSo words claims = All (IsSo words) claims
