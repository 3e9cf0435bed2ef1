use Rattle.std.proofs.Common.{false}
use Rattle.std.proofs.lemmas.Result.{err_from_is_err_and}
use Rattle.rgc_commands.specs.Inner.Stops.{NoFault}
use Rattle.rgc_commands.proofs.Outlining.{verified_stop}
use Rattle.rgc_commands.proofs.Stopping.{proof_stop_more, verify_stop}
use Rattle.rgc_commands.proofs.outlines.verify_conditions.Goals as goal

pub returns-in_err-outlined-clause-stopped : goal.returns-in_err-outlined-clause-stopped
returns-in_err-outlined-clause-stopped g c =
    let p = err_from_is_err_and c.from_residual.result c.from_residual.ensures.1 in
    rw (p.1, p.2) (verified_stop c.args.settings.now c.args.asked.outlines c.args.asked.steps false c.args.asked.text c.args.files.now _ c.in_err-outlined.ensures.stopped)

pub returns-in_err-proved-clause-stopped : goal.returns-in_err-proved-clause-stopped
returns-in_err-proved-clause-stopped g c =
    let p = err_from_is_err_and c.from_residual-in_err-proved.result c.from_residual-in_err-proved.ensures.1 in
    rw (p.1, p.2) (verify_stop c.args.settings.now c.args.asked.outlines c.args.asked.steps c.args.asked.text c.args.files.now _ _ c.in_ok-outlined.ensures.files
    (proof_stop_more _ _ NoFault _ _ (λ lines none. absurd none) (rw c.search_steps.ensures at c.in_err-proved.ensures.stopped)))

pub returns-in_err-more-clause-stopped : goal.returns-in_err-more-clause-stopped
returns-in_err-more-clause-stopped g c =
    let p = err_from_is_err_and c.from_residual-in_err-more.result c.from_residual-in_err-more.ensures.1 in
    rw (p.1, p.2) (verify_stop c.args.settings.now c.args.asked.outlines c.args.asked.steps c.args.asked.text c.args.files.now _ _ c.in_ok-outlined.ensures.files (c.in_err-more.ensures.stopped _))
