use Rattle.std.proofs.Common.{refl}
use Rattle.std.proofs.lemmas.Result.{err_from_is_err_and}
use Rattle.rgc_line.specs.declared.command.Command.TheVariants.{Outline}
use Rattle.rgc_commands.proofs.Outlining.{no_outline_stop}
use Rattle.rgc_commands.proofs.outlines.expand.Goals as goal

pub returns-in_err-outlined-clause-stopped : goal.returns-in_err-outlined-clause-stopped
returns-in_err-outlined-clause-stopped g c = λ s o.
    let p = err_from_is_err_and c.from_residual.result c.from_residual.ensures.1 in
    let w = c.args.written in
    rw (p.1, p.2) (no_outline_stop s (Outline o c.args.steps w.text w.derivation w.proofs w.map) c.args.files.now _ refl (λ lines h. h) c.in_err-outlined.ensures.none)
