use Rattle.std.proofs.Common.{Some, None, inl}
use Rattle.std.proofs.lemmas.Result.{err_from_is_err_and}
use Rattle.rgc_line.specs.declared.command.Command.TheVariants.{Clauses}
use Rattle.rgc_commands.proofs.Stopping.{read_past, device_stop, chosen_device}
use Rattle.rgc_commands.proofs.smt.script_of.Goals as goal

pub returns-in_err-text-clause-stopped : goal.returns-in_err-text-clause-stopped
returns-in_err-text-clause-stopped c = λ s t.
    let p = err_from_is_err_and c.from_residual.result c.from_residual.ensures.1 in
    rw (p.1, p.2) (chosen_device s t c.args.chosen c.args.files.now _ c.in_err-text.ensures.unread)

pub returns-in_err-shown_condition-in-None-clause-stopped : goal.returns-in_err-shown_condition-in-None-clause-stopped
returns-in_err-shown_condition-in-None-clause-stopped c = λ s t.
    let p = err_from_is_err_and c.from_residual-in_err-shown_condition-in-None.result c.from_residual-in_err-shown_condition-in-None.ensures.1 in
    rw (p.1, p.2, c.in-None.is, c.in_ok-text.ensures.bytes) (inl (inl c.in_err-shown_condition-in-None.ensures.refused))

pub returns-in_err-derivation-in-Some-clause-stopped : goal.returns-in_err-derivation-in-Some-clause-stopped
returns-in_err-derivation-in-Some-clause-stopped c = λ s t.
    let p = err_from_is_err_and c.from_residual-in_err-derivation-in-Some.result c.from_residual-in_err-derivation-in-Some.ensures.1 in
    rw (p.1, p.2, c.in-Some.is) (device_stop s (Clauses t (Some c.in-Some.chosen)) c.args.files.now _ (read_past _ _ _ _ _ c.in_ok-text.ensures.bytes (c.in_err-derivation-in-Some.ensures.unread None)))

pub returns-in_err-condition-in-Some-clause-stopped : goal.returns-in_err-condition-in-Some-clause-stopped
returns-in_err-condition-in-Some-clause-stopped c = λ s t.
    let p = err_from_is_err_and c.from_residual-in_err-condition-in-Some.result c.from_residual-in_err-condition-in-Some.ensures.1 in
    rw (p.1, p.2, c.in-Some.is, c.in_ok-text.ensures.bytes, c.in_ok-derivation-in-Some.ensures.bytes) (inl (inl c.in_err-condition-in-Some.ensures.refused))

pub returns-in_ok-shown_condition-in-None-clause-answer : goal.returns-in_ok-shown_condition-in-None-clause-answer
returns-in_ok-shown_condition-in-None-clause-answer c = λ s t asked. rw (c.in-None.is, c.in_ok-text.ensures.bytes) (asked, c.in_ok-shown_condition-in-None.ensures.shown)

pub returns-in_ok-condition-in-Some-clause-answer : goal.returns-in_ok-condition-in-Some-clause-answer
returns-in_ok-condition-in-Some-clause-answer c = λ s t asked. rw (c.in-Some.is, c.in_ok-text.ensures.bytes, c.in_ok-derivation-in-Some.ensures.bytes) (asked, c.in_ok-condition-in-Some.ensures.chosen)
