use Rattle.std.proofs.Common.{None, inl}
use Rattle.std.proofs.lemmas.Result.{err_from_is_err_and}
use Rattle.rgc_commands.proofs.Stopping.{code_stop, files_stop}
use Rattle.rgc_commands.proofs.coding.left_of_files.Goals as goal

pub returns-in_err-text-clause-stopped : goal.returns-in_err-text-clause-stopped
returns-in_err-text-clause-stopped g c = λ in_c.
    let p = err_from_is_err_and c.from_residual.result c.from_residual.ensures.1 in
    rw (p.1, p.2) (files_stop c.args.settings.now in_c c.args.files.now _ (c.in_err-text.ensures.unread None))

pub returns-in_err-emitted-clause-stopped : goal.returns-in_err-emitted-clause-stopped
returns-in_err-emitted-clause-stopped g c = λ in_c.
    let p = err_from_is_err_and c.from_residual-in_err-emitted.result c.from_residual-in_err-emitted.ensures.1 in
    rw (p.1, p.2, c.in_ok-text.ensures.text, c.in_ok-text.ensures.derivation, c.in_ok-text.ensures.proofs) (inl c.in_err-emitted.ensures.refused)

pub returns-in_err-code-clause-stopped : goal.returns-in_err-code-clause-stopped
returns-in_err-code-clause-stopped g c = λ in_c.
    let p = err_from_is_err_and c.from_residual-in_err-code.result c.from_residual-in_err-code.ensures.1 in
    rw (p.1, p.2) (code_stop c.args.settings.now in_c c.args.files.now _ _ (λ lines stay. rw (c.in_ok-text.ensures.text, c.in_ok-text.ensures.derivation, c.in_ok-text.ensures.proofs) (record { program = _; whole = _; built = c.in_ok-emitted.ensures.built; why = inl stay })) c.in_err-code.ensures.stopped)
