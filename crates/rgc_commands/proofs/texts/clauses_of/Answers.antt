use Rattle.std.proofs.Common.{Some, None, inl}
use Rattle.std.proofs.lemmas.Result.{err_from_is_err_and}
use Rattle.rgc_line.specs.declared.command.Command.TheVariants.{Clauses}
use Rattle.rgc_commands.proofs.Stopping.{read_past, device_stop, chosen_device}
use Rattle.rgc_commands.proofs.texts.clauses_of.Goals as goal

pub returns-in_err-text-clause-stopped : goal.returns-in_err-text-clause-stopped
returns-in_err-text-clause-stopped c = λ s t.
    let p = err_from_is_err_and c.from_residual.result c.from_residual.ensures.1 in
    rw (p.1, p.2) (chosen_device s t c.args.chosen c.args.files.now _ c.in_err-text.ensures.unread)

pub returns-in_err-clauses-in-None-clause-stopped : goal.returns-in_err-clauses-in-None-clause-stopped
returns-in_err-clauses-in-None-clause-stopped c = λ s t.
    let p = err_from_is_err_and c.from_residual-in_err-clauses-in-None.result c.from_residual-in_err-clauses-in-None.ensures.1 in
    rw (p.1, p.2, c.in-None.is, c.in_ok-text.ensures.bytes) (inl c.in_err-clauses-in-None.ensures.refused)

pub returns-in_err-derivation-in-Some-clause-stopped : goal.returns-in_err-derivation-in-Some-clause-stopped
returns-in_err-derivation-in-Some-clause-stopped c = λ s t.
    let p = err_from_is_err_and c.from_residual-in_err-derivation-in-Some.result c.from_residual-in_err-derivation-in-Some.ensures.1 in
    rw (p.1, p.2, c.in-Some.is) (device_stop s (Clauses t (Some c.in-Some.chosen)) c.args.files.now _ (read_past _ _ _ _ _ c.in_ok-text.ensures.bytes (c.in_err-derivation-in-Some.ensures.unread None)))

pub returns-in_err-found-in-Some-clause-stopped : goal.returns-in_err-found-in-Some-clause-stopped
returns-in_err-found-in-Some-clause-stopped c = λ s t.
    let p = err_from_is_err_and c.from_residual-in_err-found-in-Some.result c.from_residual-in_err-found-in-Some.ensures.1 in
    rw (p.1, p.2, c.in-Some.is, c.in_ok-text.ensures.bytes, c.in_ok-derivation-in-Some.ensures.bytes) (inl c.in_err-found-in-Some.ensures.refused)

pub returns-in_ok-clauses-in-None-clause-answer : goal.returns-in_ok-clauses-in-None-clause-answer
returns-in_ok-clauses-in-None-clause-answer c = λ s t asked. rw (c.in-None.is, c.in_ok-text.ensures.bytes) (asked, c.in_ok-clauses-in-None.ensures.clauses)

pub returns-in_ok-found-in-Some-clause-answer : goal.returns-in_ok-found-in-Some-clause-answer
returns-in_ok-found-in-Some-clause-answer c = λ s t asked. rw (c.in-Some.is, c.in_ok-text.ensures.bytes, c.in_ok-derivation-in-Some.ensures.bytes) (asked, record { condition = _; chosen = c.in_ok-found-in-Some.ensures.chosen; are = c.in_ok-found-in-Some.ensures.clauses; within = rw c.in_ok-found-in-Some.ensures.clauses c.in_ok-found-in-Some.ensures.within })
