use Rattle.std.proofs.lemmas.Result.{err_from_is_err_and}
use Rattle.std.proofs.Common.{inr, refl}
use Rattle.rgc_line.specs.declared.command.Command.TheVariants.{RunOutline}
use Rattle.rgc_commands.proofs.Printing.{none_left_out}
use Rattle.rgc_commands.proofs.Stopping.{device_stop, run_outline_stop, run_proof_stop}
use Rattle.rgc_commands.proofs.coding.run_outline.Goals as goal

pub returns-in_err-expanded_of-clause-stopped : goal.returns-in_err-expanded_of-clause-stopped
returns-in_err-expanded_of-clause-stopped g c = λ o.
    let p = err_from_is_err_and c.from_residual.result c.from_residual.ensures.1 in
    rw (p.1, p.2) (device_stop c.args.settings.now (RunOutline o c.args.asked.start c.args.asked.moves c.args.asked.limit c.args.asked.draw) c.args.files.now _ (c.in_err-expanded_of.ensures.unread _))

pub returns-in_err-start-clause-stopped : goal.returns-in_err-start-clause-stopped
returns-in_err-start-clause-stopped g c = λ o.
    let p = err_from_is_err_and c.from_residual-in_err-start.result c.from_residual-in_err-start.ensures.1 in
    rw (p.1, p.2) (device_stop c.args.settings.now (RunOutline o c.args.asked.start c.args.asked.moves c.args.asked.limit c.args.asked.draw) c.args.files.now _ (rw c.in_ok-expanded_of.ensures.expanded c.in_err-start.ensures.unread))

pub returns-in_err-outlined-clause-stopped : goal.returns-in_err-outlined-clause-stopped
returns-in_err-outlined-clause-stopped g c = λ o.
    let p = err_from_is_err_and c.from_residual-in_err-outlined.result c.from_residual-in_err-outlined.ensures.1 in
    rw (p.1, p.2) (run_outline_stop c.args.settings.now o c.args.asked.start c.args.asked.moves c.args.asked.limit c.args.asked.draw c.args.files.now _ _ c.in_ok-expanded_of.ensures.expanded c.in_err-outlined.ensures.none)

pub returns-in_err-proved-clause-stopped : goal.returns-in_err-proved-clause-stopped
returns-in_err-proved-clause-stopped g c = λ o.
    let p = err_from_is_err_and c.from_residual-in_err-proved.result c.from_residual-in_err-proved.ensures.1 in
    rw (p.1, p.2) (run_proof_stop c.args.settings.now o c.args.asked.start c.args.asked.moves c.args.asked.limit c.args.asked.draw c.args.files.now _ _ c.in_ok-outlined.ensures.files c.in_err-proved.ensures.stopped)

pub returns-in_err-emitted-clause-stopped : goal.returns-in_err-emitted-clause-stopped
returns-in_err-emitted-clause-stopped g c = λ o.
    let p = err_from_is_err_and c.from_residual-in_err-emitted.result c.from_residual-in_err-emitted.ensures.1 in
    rw (p.1, p.2) (inr (c.in_err-emitted.ensures.accepts c.in_ok-proved.ensures.proved.proved))

pub returns-in_err-naming-clause-stopped : goal.returns-in_err-naming-clause-stopped
returns-in_err-naming-clause-stopped g c = λ o.
    let p = err_from_is_err_and c.from_residual-in_err-naming.result c.from_residual-in_err-naming.ensures.1 in
    rw (p.1, p.2) (inr refl)

pub returns-clause-answer : goal.returns-clause-answer
returns-clause-answer g c = λ o.
    rw c.in_ok-outlined.ensures.files (record {
      left = record { program = _; whole = _; built = c.in_ok-emitted.ensures.built _ c.in_ok-proved.ensures.proved; is_left = rw (none_left_out _ _) (refl, refl) };
      start_read = rw c.run.ensures c.in_ok-start.ensures.start;
      moves_read = rw c.run.ensures c.in_ok-start.ensures.moves;
      limit_is = rw c.run.ensures refl;
    })
