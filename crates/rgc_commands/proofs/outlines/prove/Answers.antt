use Rattle.std.proofs.lemmas.Result.{err_from_is_err_and}
use Rattle.rgc_commands.proofs.outlines.prove.Goals as goal

pub returns-in_err-report-in-Err-clause-stopped : goal.returns-in_err-report-in-Err-clause-stopped
returns-in_err-report-in-Err-clause-stopped g c =
    let p = err_from_is_err_and c.from_residual-in_err-report-in-Err.result c.from_residual-in_err-report-in-Err.ensures.1 in
    rw (p.1, p.2) (c.in_err-report-in-Err.ensures c.args.steps)
