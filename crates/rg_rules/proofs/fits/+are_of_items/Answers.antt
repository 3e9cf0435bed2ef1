use Rattle.std.proofs.Common.{map, arith}
use Rattle.std.proofs.lemmas.List.{length-map}
use Rattle.rg_tree.specs.ProgramView.{items}
use Rattle.rg_tree.specs.Lines.{line_tree}
use Rattle.rg_rules.proofs.Fitting.{none_numbered, one_numbered}
use Rattle.rg_rules.proofs.fits.+are_of_items.Goals as goal

pub returns-in_default : goal.returns-in_default
returns-in_default t c =
    (λ h. cc h, λ e. absurd (none_numbered _ c.args.number (items c.args.rest.now) c.args.premises.now c.in_default.ensures.cases e))

pub returns-then-line-number : goal.returns-then-line-number
returns-then-line-number t c =
    rw c.in-One.is (one_numbered (map line_tree c.args.lines.now) _ c.args.number c.in-Some.first.now c.args.premises.now c.in-Some.others.now (line_tree c.line_at-line.result.now) c.is_empty.result c.in-Some.ensures.cases.0 c.requires.earlier (simp length-map (omega arith)) c.line_at-line.ensures c.if-line-number.true c.is_empty.ensures)
