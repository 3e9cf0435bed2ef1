use Rattle.std.proofs.Common.{◌≡◌, length}
use Rattle.rg_hint_lines.specs.Text.{fields_of}
use Rattle.rg_hint_lines.specs.Reading.{hints_of}
use Rattle.rg_hint_lines.proofs.ReadSteps.{after}
use Rattle.rg_hint_lines.proofs.read.read_hints.Given as goal

-- the hints so far and those of the rest are those of the line
abbrev pub invariant-loop-hint : goal.invariant-loop-hint
invariant-loop-hint l = after l.hints.items (hints_of (fields_of l.rest)) ≡ hints_of (fields_of l.line)

abbrev pub decreases-loop-hint : goal.decreases-loop-hint
decreases-loop-hint l = length l.rest
