use Rattle.std.proofs.Common.{◌≡◌, ◌+◌, refl, inl, inr, ◌∙◌, ⊎_elim}
use Rattle.std.proofs.lemmas.Result.{MatchResult-weaker}
use Rattle.rg_hint_lines.specs.Sections.{sections_of}
use Rattle.rg_hint_lines.specs.Inner.SectionForms.{sections_after}
use Rattle.rg_hint_lines.proofs.SectionSteps.{whole_file, rest_is}
use Rattle.rg_hint_lines.proofs.sections.read_sections.Goals as goal

pub returns-in-Err-clause-sections : goal.returns-in-Err-clause-sections
returns-in-Err-clause-sections c =
    let a = c.lines_before_head-lines.ensures.lines in
    let front = c.lines_before_head-lines.result.0.now in
    let n = c.lines_before_head-lines.result.1 in
    inr (whole_file c.args.count c.args.proofs.now front a.rest n a refl ∙ c.in-Err.ensures (sections_after c.args.count (n + 1) a.rest))

pub returns-clause-sections : goal.returns-clause-sections
returns-clause-sections c =
    let a = c.lines_before_head-lines.ensures.lines in
    let front = c.lines_before_head-lines.result.0.now in
    let n = c.lines_before_head-lines.result.1 in
    let rest : c.skip.result.now ≡ a.rest = c.skip.ensures ∙ rest_is c.args.proofs.now front a.rest a.are.fronts.is in
    let whole : sections_of c.args.count c.args.proofs.now ≡ sections_after c.args.count (n + 1) c.skip.result.now =
    whole_file c.args.count c.args.proofs.now front c.skip.result.now n a rest ∙ c.in_default.ensures (sections_after c.args.count (n + 1) c.skip.result.now) in
    MatchResult-weaker c.sections_after.result c.sections_after.ensures.sections (λ found h. whole ∙ h) (λ r h. ⊎_elim (λ m. inl m) (λ e. inr (whole ∙ e)) h)
