use Rattle.std.proofs.lemmas.Result.{err_from_is_err_and}
use Rattle.std.proofs.Common.{inl}
use Rattle.rgc_commands.specs.Stops.{LacksCodeOfOutline}
use Rattle.rgc_commands.proofs.Stopping.{proof_code_stop, no_memory_verify}
use Rattle.rgc_commands.proofs.coding.left_of_outline.Goals as goal

pub returns-in_err-emitted-clause-stopped : goal.returns-in_err-emitted-clause-stopped
returns-in_err-emitted-clause-stopped g c = λ steps in_c.
    let p = err_from_is_err_and c.from_residual.result c.from_residual.ensures.1 in
    rw (p.1, p.2, c.in_err-emitted.ensures.accepts c.requires.proved) (no_memory_verify c.args.outlined.now.files steps c.requires)

pub returns-in_err-code-clause-stopped : goal.returns-in_err-code-clause-stopped
returns-in_err-code-clause-stopped g c = λ steps in_c.
    let outline = c.args.outlined.now.files in
    let p = err_from_is_err_and c.from_residual-in_err-code.result c.from_residual-in_err-code.ensures.1 in
    rw (p.1, p.2)
    (proof_code_stop outline steps _ (λ lines. LacksCodeOfOutline c.args.settings.now in_c lines outline) c.requires (λ lines stay. (_, record { program = _; whole = _; built = c.in_ok-emitted.ensures.built _ c.requires; why = inl (rw c.auxiliary_of-auxiliary.ensures at stay) })) _ c.in_err-code.ensures.stopped)

pub returns-clause-left : goal.returns-clause-left
returns-clause-left g c =
    record { program = _; whole = _; built = c.in_ok-emitted.ensures.built _ c.requires; is_left = rw c.auxiliary_of-auxiliary.ensures at c.in_ok-code.ensures.left }
