use Rattle.std.proofs.Common.{ℕ, ◌+◌, ◌≤◌, List, length}
use Rattle.rg_hint_lines.specs.Inner.SectionForms.{ArePlainLines}
use Rattle.rg_hint_lines.proofs.sections.lines_before_head.Given as goal

-- so many lines stand before the rest, and none is a head
abbrev pub invariant-loop-after : goal.invariant-loop-after
invariant-loop-after l = record {
  lines : (front : List ℕ) × ArePlainLines l.text front l.rest l.count;
  room : l.count + length l.rest ≤ length l.text;
}

abbrev pub decreases-loop-after : goal.decreases-loop-after
decreases-loop-after l = length l.rest
