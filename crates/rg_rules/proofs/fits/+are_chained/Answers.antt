use Rattle.std.proofs.Common.{map, length, ◌≤◌, arith}
use Rattle.std.proofs.lemmas.List.{length-map}
use Rattle.std.proofs.lemmas.Bool.Decides.{nat_tests}
use Rattle.rg_tree.specs.View.{formula}
use Rattle.rg_tree.specs.ProgramView.{specification}
use Rattle.rg_tree.specs.Lines.{line_tree}
use Rattle.rg_rules.proofs.Fitting.{chained_from}
use Rattle.rg_rules.proofs.fits.+are_chained.Goals as goal

pub returns-then-is_spec : goal.returns-then-is_spec
returns-then-is_spec t c =
    let some : 1 ≤ length c.in-Some.others.now = grind (arith, nat_tests, c.if-is_empty.ensures) in
    chained_from (map line_tree c.args.lines.now) _ c.in-Some.first.now c.args.premises.now c.in-Some.others.now (line_tree c.line_at.result.now) (record (specification c.args.spec.now) { pre = formula c.args.pre.now }) c.are_chained.result c.in-Some.ensures.cases.0 c.line_at.ensures c.requires.earlier (simp length-map (omega arith)) some (c.is_spec-else-is_empty.ensures.0 c.if-is_spec.true) c.are_chained.ensures
