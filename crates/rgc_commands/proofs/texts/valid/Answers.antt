use Rattle.std.proofs.Common.{◌≡◌, ◌∙◌, None, inl, inr, refl}
use Rattle.std.specs.List.{concat}
use Rattle.rgc.specs.Pieces.{bytes_of}
use Rattle.std.proofs.lemmas.Result.{err_from_is_err_and}
use Rattle.rgc_line.specs.declared.command.Command.TheVariants.{Valid}
use Rattle.rgc_commands.specs.Stops.{proofs_line}
use Rattle.rgc_commands.proofs.Stopping.{device_stop, read_past}
use Rattle.rgc_commands.proofs.texts.valid.Goals as goal

pub returns-in_err-text-clause-stopped : goal.returns-in_err-text-clause-stopped
returns-in_err-text-clause-stopped g c = λ s t q.
    let p = err_from_is_err_and c.from_residual.result c.from_residual.ensures.1 in
    rw (p.1, p.2) (device_stop s (Valid t q) c.args.files.now _ (c.in_err-text.ensures.unread (proofs_line c.args.files.now None)))

pub returns-in_err-proofs-clause-stopped : goal.returns-in_err-proofs-clause-stopped
returns-in_err-proofs-clause-stopped g c = λ s t q.
    let p = err_from_is_err_and c.from_residual-in_err-proofs.result c.from_residual-in_err-proofs.ensures.1 in
    rw (p.1, p.2) (device_stop s (Valid t q) c.args.files.now _ (read_past _ _ _ _ _ c.in_ok-text.ensures.bytes (c.in_err-proofs.ensures.unread None)))

pub returns-in_err-hints-clause-stopped : goal.returns-in_err-hints-clause-stopped
returns-in_err-hints-clause-stopped g c = λ s t q.
    let p = err_from_is_err_and c.from_residual-in_err-hints.result c.from_residual-in_err-hints.ensures.1 in
    rw (p.1, p.2) (inr c.in_err-hints.ensures.refused)

pub returns-in_err-valid_by-clause-stopped : goal.returns-in_err-valid_by-clause-stopped
returns-in_err-valid_by-clause-stopped g c = λ s t q.
    let p = err_from_is_err_and c.from_residual-in_err-valid_by.result c.from_residual-in_err-valid_by.ensures.1 in
    let same : c.deref.result.now ≡ concat (bytes_of c.in_ok-proofs.proofs.now) = c.deref.ensures.value ∙ c.in_ok-hints.ensures.joined in
    rw (p.1, p.2, c.in_ok-text.ensures.bytes, c.in_ok-proofs.ensures.bytes, ← same) (inl c.in_err-valid_by.ensures.refused)

pub returns-clause-answer : goal.returns-clause-answer
returns-clause-answer g c = λ s t q.
    let same : c.deref.result.now ≡ concat (bytes_of c.in_ok-proofs.proofs.now) = c.deref.ensures.value ∙ c.in_ok-hints.ensures.joined in
    rw (c.in_ok-text.ensures.bytes, c.in_ok-proofs.ensures.bytes, ← same) (c.in_ok-valid_by.ensures.proved, c.in_ok-valid_by.ensures.holds)
