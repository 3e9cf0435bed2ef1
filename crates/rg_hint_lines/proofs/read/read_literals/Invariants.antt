use Rattle.std.proofs.Common.{◌≡◌, length}
use Rattle.std.specs.Prelude.{All}
use Rattle.rg_hint_lines.specs.Lines.{IsHintLiteral}
use Rattle.rg_hint_lines.specs.Text.{fields_of}
use Rattle.rg_hint_lines.specs.Reading.{literals_of}
use Rattle.rg_hint_lines.proofs.ReadSteps.{after}
use Rattle.rg_hint_lines.proofs.read.read_literals.Given as goal

-- the literals so far and those of the rest are those of the line
abbrev pub invariant-loop-literal : goal.invariant-loop-literal
invariant-loop-literal l = record {
  value : after l.literals.items (literals_of (fields_of l.rest)) ≡ literals_of (fields_of l.line);
  fit : All IsHintLiteral l.literals.items;
}

abbrev pub decreases-loop-literal : goal.decreases-loop-literal
decreases-loop-literal l = length l.rest
