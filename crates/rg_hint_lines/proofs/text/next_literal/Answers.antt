use Rattle.std.proofs.Common.{refl}
use Rattle.rg_hint_lines.specs.Text.{literal_in}
use Rattle.rg_hint_lines.proofs.ZippedLines.{match_option}
use Rattle.rg_hint_lines.proofs.FieldFronts.{first_none, first_some}
use Rattle.rg_hint_lines.proofs.text.next_literal.Goals as goal

pub returns-clause-value : goal.returns-clause-value
returns-clause-value c =
    match_option c.front_literal.result _ _ _ _
    (first_none literal_in c.args.line.now refl)
    (λ r. first_some literal_in c.args.line.now refl r.0 r.1.now)
    (rw c.skip_blanks.ensures at c.front_literal.ensures.value)
