use Rattle.std.proofs.Common.{None, Some, inl, inr}
use Rattle.std.proofs.lemmas.Result.{err_from_is_err_and}
use Rattle.rgc_line.specs.declared.command.Command.TheVariants.{Prove}
use Rattle.rgc_commands.proofs.Stopping.{device_stop}
use Rattle.rgc_commands.proofs.Proving.{part_answer}
use Rattle.rgc_commands.proofs.texts.prove_part.Goals as goal

pub returns-in_err-text-clause-stopped : goal.returns-in_err-text-clause-stopped
returns-in_err-text-clause-stopped g c = λ s t d.
    let p = err_from_is_err_and c.from_residual.result c.from_residual.ensures.1 in
    rw (p.1, p.2) (device_stop s (Prove t d c.args.steps (Some c.args.range)) c.args.files.now _ (c.in_err-text.ensures.unread None))

pub returns-in_err-derived-clause-stopped : goal.returns-in_err-derived-clause-stopped
returns-in_err-derived-clause-stopped g c = λ s t d.
    let p = err_from_is_err_and c.from_residual-in_err-derived.result c.from_residual-in_err-derived.ensures.1 in
    rw (p.1, p.2, c.in_ok-text.ensures.text, c.in_ok-text.ensures.derivation) (inl (_, _, c.in-Some.ensures, inl c.in_err-derived.ensures.refused))

pub returns-in_err-found-clause-stopped : goal.returns-in_err-found-clause-stopped
returns-in_err-found-clause-stopped g c = λ s t d.
    let p = err_from_is_err_and c.from_residual-in_err-found.result c.from_residual-in_err-found.ensures.1 in
    rw (p.1, p.2, c.in_ok-text.ensures.text, c.in_ok-text.ensures.derivation) (inl (_, _, c.in-Some.ensures, inr (_, _, c.in_ok-derived.ensures.derived, c.in_err-found.ensures.refused)))

pub returns-in_default-clause-stopped : goal.returns-in_default-clause-stopped
returns-in_default-clause-stopped g c = λ s t d. inr tt

pub returns-clause-answer : goal.returns-clause-answer
returns-clause-answer g c = λ s t d. part_answer s t d c.args.steps c.args.range c.args.files.now _ _ _ _ _ _ _ c.in_ok-text.ensures.text c.in_ok-text.ensures.derivation c.in_ok-derived.ensures.derived c.in-Some.ensures c.in_ok-found.ensures.found c.proofs_answer.ensures
