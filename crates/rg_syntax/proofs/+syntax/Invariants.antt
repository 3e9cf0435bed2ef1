use Rattle.std.proofs.Common.{◌≤◌}
use Rattle.rg_syntax.specs.declared.written.FormulaText.{size-FormulaText}
use Rattle.rg_syntax.proofs.+syntax.Given as goal

-- what is left is no deeper
abbrev pub invariant-written::FormulaText::drop-loop-self :
    goal.invariant-written::FormulaText::drop-loop-self
invariant-written::FormulaText::drop-loop-self l = size-FormulaText l.self ≤ size-FormulaText l.initial.self
