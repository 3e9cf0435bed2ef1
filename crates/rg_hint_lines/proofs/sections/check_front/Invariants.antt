use Rattle.std.proofs.Common.{◌≡◌, ◌+◌, ◌≤◌, List, length, Result}
use Rattle.std.specs.Str.Lines.{lines}
use Rattle.rg_words.specs.declared.refusal.Refusal.{Refusal}
use Rattle.rg_hint_lines.specs.Sections.{SectionText, after_front}
use Rattle.rg_hint_lines.proofs.sections.check_front.Given as goal

-- the lines so far are passed over
abbrev pub invariant-loop-rest : goal.invariant-loop-rest
invariant-loop-rest l = record {
  same : (s : Result (List SectionText) Refusal) → after_front 1 (lines l.front) s ≡ after_front l.number (lines l.rest) s;
  room : l.number + length l.rest ≤ 1 + length l.front;
}

abbrev pub decreases-loop-rest : goal.decreases-loop-rest
decreases-loop-rest l = length l.rest
