use Rattle.std.proofs.Common.{◌≡◌, ◌+◌, ◌≤◌, All, length}
use Rattle.rg_hints.specs.Lines.{HintLine}
use Rattle.rg_find.specs.Found.{HasNoGaps}
use Rattle.rg_find.proofs.logged_lines.lines_of.Given as goal

-- the lines so far have the numbers after the given ones, up to the last
abbrev pub invariant-loop-index : goal.invariant-loop-index
invariant-loop-index l = record {
  given : l.lines.given ≡ l.fn.given;
  past : l.last ≡ l.fn.given + length l.lines.lines;
  order : HasNoGaps l.lines;
  numbers : All (λ (line : HintLine). line.id ≤ l.last) l.lines.lines;
}
