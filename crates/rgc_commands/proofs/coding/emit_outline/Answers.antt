use Rattle.std.proofs.lemmas.Result.{err_from_is_err_and}
use Rattle.rgc_commands.proofs.Stopping.{outline_form_stop, emit_outline_stop, in_c_as_asked}
use Rattle.rgc_commands.proofs.coding.emit_outline.Goals as goal

pub returns-in_err-form-clause-stopped : goal.returns-in_err-form-clause-stopped
returns-in_err-form-clause-stopped g c = λ o.
    let p = err_from_is_err_and c.from_residual.result c.from_residual.ensures.1 in
    rw (p.1, p.2) (outline_form_stop c.args.settings.now o c.args.files.now _ c.in_err-form.ensures.stopped)

pub returns-in_err-text-clause-stopped : goal.returns-in_err-text-clause-stopped
returns-in_err-text-clause-stopped g c = λ o.
    let p = err_from_is_err_and c.from_residual-in_err-text.result c.from_residual-in_err-text.ensures.1 in
    rw (p.1, p.2) (emit_outline_stop c.args.settings.now o c.args.files.now _ _ (in_c_as_asked c.args.settings.now _ c.in_ok-form.ensures.form) c.in_err-text.ensures.stopped)

pub returns-clause-answer : goal.returns-clause-answer
returns-clause-answer g c = λ o. (_, c.in_ok-form.ensures.form, c.in_ok-text.ensures.text)
