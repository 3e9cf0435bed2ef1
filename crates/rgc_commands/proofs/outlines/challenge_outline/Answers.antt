use Rattle.std.proofs.Common.{inl, inr, refl}
use Rattle.std.proofs.lemmas.Result.{err_from_is_err_and}
use Rattle.rgc_line.specs.declared.command.Command.TheVariants.{Challenge}
use Rattle.rgc_commands.proofs.Outlining.{no_outline_stop}
use Rattle.rgc_commands.proofs.outlines.challenge_outline.Goals as goal

pub returns-in_err-outlined-clause-stopped : goal.returns-in_err-outlined-clause-stopped
returns-in_err-outlined-clause-stopped g c = λ o.
    let p = err_from_is_err_and c.from_residual.result c.from_residual.ensures.1 in
    rw (p.1, p.2) (no_outline_stop c.args.settings.now (Challenge o c.args.has_refused) c.args.files.now _ refl (λ lines h. h) c.in_err-outlined.ensures.none)

pub returns-in_err-found-clause-stopped : goal.returns-in_err-found-clause-stopped
returns-in_err-found-clause-stopped g c = λ o.
    let p = err_from_is_err_and c.from_residual-in_err-found.result c.from_residual-in_err-found.ensures.1 in
    rw (p.1, p.2, c.in_ok-outlined.ensures.files) (inl (inr (_, record { program = _; lines = _; proofs = _; proved = c.in_ok-proved.ensures.proved; count = c.in_ok-counts.ensures })))
