use Rattle.std.proofs.Common.{◌≡◌, ◌+◌, ◌≤◌, length}
use Rattle.std.specs.Prelude.{All}
use Rattle.std.specs.Str.Lines.{lines}
use Rattle.rg_hint_lines.specs.Reading.{hint_lines_of}
use Rattle.rg_hint_lines.proofs.ReadSteps.{with_front}
use Rattle.rg_hint_lines.proofs.lines.Lines.read.Given as goal

-- the hint lines so far and those of the rest are those of the text
abbrev pub invariant-loop-rest : goal.invariant-loop-rest
invariant-loop-rest l = record {
  given : l.lines.given ≡ l.given;
  low : l.given ≤ l.last;
  below : All (λ line. line.id ≤ l.last) l.lines.lines;
  room : l.number + length l.rest ≤ l.first_line + length l.bytes;
  found : with_front l.lines.lines (hint_lines_of (lines l.rest) l.number l.last) ≡ hint_lines_of (lines l.bytes) l.first_line l.given;
}

abbrev pub decreases-loop-rest : goal.decreases-loop-rest
decreases-loop-rest l = length l.rest
