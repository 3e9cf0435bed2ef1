use Rattle.std.proofs.Common.{[], sym, ◌∙◌}
use Rattle.rg_parse.proofs.ParseLemmas.{statement_only, within_most, no_line}
use Rattle.rg_parse.proofs.parse_programs.parse_whole.Goals as goal

pub returns-in-Some-clause-answers : goal.returns-in-Some-clause-answers
returns-in-Some-clause-answers c = λ src.
    rw c.limit.ensures (statement_only c.args.file src c.args.tokens.now tt (c.requires src) c.in-Some.line (λ ls begun. sym c.in-Some.is ∙ c.in_ok-line.ensures src ls begun))

pub returns-in-Some-clause-accepts : goal.returns-in-Some-clause-accepts
returns-in-Some-clause-accepts c = λ src w.
    absurd (no_line _ w.0 w.4 w.3 c.in-Some.line (λ ls begun. sym c.in-Some.is ∙ c.in_ok-line.ensures src ls begun))

pub unreachable-requires : goal.unreachable-requires
unreachable-requires c =
    let w = c.requires [] in
    rw c.in-None.is at (c.in_ok-text.ensures [] w.0 w.3)

pub returns-clause-answers : goal.returns-clause-answers
returns-clause-answers c = λ src.
    let w = c.requires src in
    let none = within_most _ w.0 w.3 (λ ls begun. sym c.in_default.is ∙ c.in_ok-line.ensures src ls begun) in
    (w.0, w.1, w.2, none, w.3, rw c.in-Some-2.is at (c.in_ok-text.ensures src w.0 w.3))
