use Rattle.std.proofs.lemmas.Result.{err_from_is_err_and}
use Rattle.std.proofs.Common.{false, refl}
use Rattle.rgc_line.specs.declared.command.Command.TheVariants.{Run}
use Rattle.rgc_commands.proofs.Printing.{ready_files}
use Rattle.rgc_commands.proofs.Stopping.{device_stop, run_stop}
use Rattle.rgc_commands.proofs.coding.run.Goals as goal

pub returns-in_err-drawn_as_lines-clause-stopped : goal.returns-in_err-drawn_as_lines-clause-stopped
returns-in_err-drawn_as_lines-clause-stopped g c = λ t d q.
    let p = err_from_is_err_and c.from_residual.result c.from_residual.ensures.1 in
    rw (p.1, p.2) (c.in_err-drawn_as_lines.ensures t d q c.args.asked.start c.args.asked.moves c.args.asked.limit c.args.files.now)

pub returns-in_err-three_files-clause-stopped : goal.returns-in_err-three_files-clause-stopped
returns-in_err-three_files-clause-stopped g c = λ t d q.
    let p = err_from_is_err_and c.from_residual-in_err-three_files.result c.from_residual-in_err-three_files.ensures.1 in
    rw (p.1, p.2) (device_stop c.args.settings.now (Run t d q c.args.asked.start c.args.asked.moves c.args.asked.limit c.args.asked.draw) c.args.files.now _ (c.in_err-three_files.ensures.unread _))

pub returns-in_err-start-clause-stopped : goal.returns-in_err-start-clause-stopped
returns-in_err-start-clause-stopped g c = λ t d q.
    let p = err_from_is_err_and c.from_residual-in_err-start.result c.from_residual-in_err-start.ensures.1 in
    rw (p.1, p.2) (device_stop c.args.settings.now (Run t d q c.args.asked.start c.args.asked.moves c.args.asked.limit c.args.asked.draw) c.args.files.now _ (rw (c.in_ok-three_files.ensures.text, c.in_ok-three_files.ensures.derivation, c.in_ok-three_files.ensures.proofs) c.in_err-start.ensures.unread))

pub returns-in_err-code-clause-stopped : goal.returns-in_err-code-clause-stopped
returns-in_err-code-clause-stopped g c = λ t d q.
    let p = err_from_is_err_and c.from_residual-in_err-code.result c.from_residual-in_err-code.ensures.1 in
    rw (p.1, p.2) (run_stop c.args.settings.now t d q c.args.asked.start c.args.asked.moves c.args.asked.limit c.args.asked.draw c.args.files.now _ _ _ _ c.in_ok-three_files.ensures.text c.in_ok-three_files.ensures.derivation c.in_ok-three_files.ensures.proofs (c.in_err-code.ensures.stopped false))

pub returns-clause-answer : goal.returns-clause-answer
returns-clause-answer g c = λ t d q.
    ready_files c.args.settings.now.erase c.args.files.now _ c.args.asked.start c.args.asked.moves c.args.asked.limit c.in_ok-code.ensures.left (rw c.run.ensures c.in_ok-start.ensures.start) (rw c.run.ensures c.in_ok-start.ensures.moves) (rw c.run.ensures refl)
