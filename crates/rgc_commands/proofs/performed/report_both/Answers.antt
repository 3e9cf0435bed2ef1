use Rattle.std.proofs.Common.{◌∙◌, sym}
use Rattle.rgc_commands.proofs.Reporting.{both_written, first_cut, written_ok, written_err}
use Rattle.rgc_commands.proofs.performed.report_both.Goals as goal

pub returns-then-is_ok : goal.returns-then-is_ok
returns-then-is_ok g c =
    let first = written_ok _ _ _ _ _ c.write_all.result c.write_all.ensures (sym c.is_ok.ensures.value ∙ c.if-is_ok.true) in
    both_written _ _ _ _ _ _ c.args.line.now c.args.below.now _ first.0 first.1 c.write_all-then-is_ok.ensures

pub returns-else-is_ok : goal.returns-else-is_ok
returns-else-is_ok g c =
    let first = written_err _ _ _ _ _ c.write_all.result c.write_all.ensures (sym c.is_ok.ensures.value ∙ c.if-is_ok.false) in
    first_cut _ _ _ _ c.args.line.now c.args.below.now first.0 first.1
