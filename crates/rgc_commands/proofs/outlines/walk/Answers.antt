use Rattle.std.proofs.Common.{true}
use Rattle.std.proofs.lemmas.Result.{err_from_is_err_and}
use Rattle.rgc_commands.proofs.Outlining.{verified_stop}
use Rattle.rgc_commands.proofs.outlines.walk.Goals as goal

pub returns-in_err-outlined-clause-stopped : goal.returns-in_err-outlined-clause-stopped
returns-in_err-outlined-clause-stopped g c =
    let p = err_from_is_err_and c.from_residual.result c.from_residual.ensures.1 in
    rw (p.1, p.2) (verified_stop c.args.settings.now c.args.asked.outlines c.args.asked.steps true c.args.asked.text c.args.files.now _ c.in_err-outlined.ensures.stopped)

pub returns-clause-answer : goal.returns-clause-answer
returns-clause-answer g c =
    rw c.in_ok-outlined.ensures.files (record {
      report = c.in_ok-runs.runs.report;
      is = c.in_ok-runs.ensures.report;
      form = c.form_of-form.result;
      lines = c.in_ok-text.ensures;
      refuted = c.in_ok-runs.ensures.broken;
    })
