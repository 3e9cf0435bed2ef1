use Rattle.std.proofs.Common.{None, inl}
use Rattle.std.proofs.lemmas.Result.{err_from_is_err_and}
use Rattle.rgc_line.specs.declared.command.Command.TheVariants.{Check}
use Rattle.rgc_commands.proofs.Stopping.{device_stop}
use Rattle.rgc_commands.proofs.texts.check.Goals as goal

pub returns-in_err-text-clause-stopped : goal.returns-in_err-text-clause-stopped
returns-in_err-text-clause-stopped g c = λ s t d q.
    let p = err_from_is_err_and c.from_residual.result c.from_residual.ensures.1 in
    rw (p.1, p.2) (device_stop s (Check t d q) c.args.files.now _ (c.in_err-text.ensures.unread None))

pub returns-in_err-accept_in_pieces-clause-stopped : goal.returns-in_err-accept_in_pieces-clause-stopped
returns-in_err-accept_in_pieces-clause-stopped g c = λ s t d q.
    let p = err_from_is_err_and c.from_residual-in_err-accept_in_pieces.result c.from_residual-in_err-accept_in_pieces.ensures.1 in
    rw (p.1, p.2, c.in_ok-text.ensures.text, c.in_ok-text.ensures.derivation, c.in_ok-text.ensures.proofs) (inl c.in_err-accept_in_pieces.ensures.refused)

pub returns-clause-answer : goal.returns-clause-answer
returns-clause-answer g c = λ s t d q. rw (c.in_ok-text.ensures.text, c.in_ok-text.ensures.derivation, c.in_ok-text.ensures.proofs) (_, c.in_ok-accept_in_pieces.ensures.accepted, c.in_ok-accept_in_pieces.ensures.satisfied)
