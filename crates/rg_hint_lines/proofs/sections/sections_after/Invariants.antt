use Rattle.std.proofs.Common.{◌≡◌, ◌+◌, ◌<◌, ◌≤◌, length, map}
use Rattle.std.specs.Prelude.{All}
use Rattle.std.specs.Str.Lines.{lines}
use Rattle.rg_hint_lines.specs.Sections.{headed_lines, sections_under}
use Rattle.rg_hint_lines.specs.Located.{text_of, AreRising}
use Rattle.rg_hint_lines.specs.Inner.SectionForms.{BeginsWithHead, HaveRoom, sections_after}
use Rattle.rg_hint_lines.proofs.SectionSteps.{with_sections}
use Rattle.rg_hint_lines.proofs.sections.sections_after.Given as goal

-- the sections so far and those of the rest, which begins with a head, are those of the text
abbrev pub invariant-loop-rest : goal.invariant-loop-rest
invariant-loop-rest l = record {
  found : with_sections (map text_of l.sections.items) (sections_under l.count l.last (headed_lines (lines l.rest) l.number).1) ≡ sections_after l.count l.first_line l.text;
  begins : BeginsWithHead l.rest;
  bound : l.last ≤ l.count;
  below : All (λ s. (0 < s.condition) × (s.condition ≤ l.last)) l.sections.items;
  rising : AreRising l.sections.items;
  fits : HaveRoom (l.first_line + length l.text) l.sections.items;
  room : l.number + length l.rest ≤ l.first_line + length l.text;
}

abbrev pub decreases-loop-rest : goal.decreases-loop-rest
decreases-loop-rest l = length l.rest
