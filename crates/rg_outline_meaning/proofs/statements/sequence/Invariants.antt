use Rattle.std.proofs.Common.{◌≡◌, ◌∷◌, ◌++◌, map, length}
use Rattle.rg_tree.specs.ProgramView.{statement, items}
use Rattle.rg_outline_meaning.proofs.StatementRules.{row_of}
use Rattle.rg_outline_meaning.proofs.statements.sequence.Given as goal

-- those that are left, the first so far and the row after it are all
abbrev pub invariant-loop-earlier : goal.invariant-loop-earlier
invariant-loop-earlier l = map statement l.fn.statements.items ≡ map statement l.statements.items ++ statement l.before ∷ row_of (items l.items)

abbrev pub decreases-loop-earlier : goal.decreases-loop-earlier
decreases-loop-earlier l = length l.statements.items
