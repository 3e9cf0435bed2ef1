use Rattle.std.proofs.Common.{ℕ, ◌<◌, get_or, pos}
use Rattle.rg_hints.specs.Lines.{IsHintLiteral}
use Rattle.rg_find.proofs.logged_lines.are_literals.Given as goal

-- the numbers so far are literals
abbrev pub invariant-loop-literal : goal.invariant-loop-literal
invariant-loop-literal l = (k : ℕ) → k < l.literal-index → IsHintLiteral (get_or l.literals k (pos 0))
