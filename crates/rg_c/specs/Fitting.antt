-- Assignments over so many words.
use Rattle.std.specs.Prelude.{ℕ, ◌<◌, ◌^◌, List, [], ◌∷◌, Option, Some, None}
use Rattle.rg_tree.specs.Trees.{Assignment, Proposition}
use Rattle.rg_tree.specs.Statements.{Statement, skip, assign, await, sequence, branch, loop, Items, one, more, Specification, PartTree}
use Rattle.rg_code.specs.Code.{count_of}
use Rattle.rg_tree.specs.Fits.{ExpressionFits, FormulaFits}

-- each value is over so many words, of widths and shift counts within the limits
abbrev pub AssignmentsFit : ℕ → List Assignment → Type 0
AssignmentsFit n [] = Unit {0}
AssignmentsFit n (a ∷ act) = ExpressionFits a.value n × AssignmentsFit n act

-- and so is a guard, if there is one
abbrev pub GuardFits : ℕ → Option Proposition → Type 0
GuardFits n None = Unit {0}
GuardFits n (Some f) = FormulaFits f n

abbrev mutual
  -- so are the formulas and values of a statement
  pub StatementFits : ℕ → Statement → Type 0
  StatementFits n (skip row) = Unit {0}
  StatementFits n (assign row a) = AssignmentsFit n (a ∷ [])
  StatementFits n (await row f act) = FormulaFits f n × AssignmentsFit n act
  StatementFits n (sequence row s items) = StatementFits n s × ItemsFit n items
  StatementFits n (branch row f s t) = FormulaFits f n × StatementFits n s × StatementFits n t
  StatementFits n (loop row f s) = FormulaFits f n × StatementFits n s

  pub ItemsFit : ℕ → Items → Type 0
  ItemsFit n (one s) = StatementFits n s
  ItemsFit n (more s items) = StatementFits n s × ItemsFit n items

-- so are the formulas of a specification
abbrev pub SpecificationFits : ℕ → Specification → Type 0
SpecificationFits n spec = FormulaFits spec.pre n × FormulaFits spec.rely n × FormulaFits spec.guar n × FormulaFits spec.post n

-- so are the bodies of parts, and the places of their steps are numbers of the machine
abbrev pub PartsFit : ℕ → List PartTree → Type 0
PartsFit n [] = Unit {0}
PartsFit n (part ∷ parts) = StatementFits n part.body × (count_of part.body < 2 ^ 64) × PartsFit n parts
