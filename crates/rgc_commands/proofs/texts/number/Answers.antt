use Rattle.std.proofs.Common.{None, inl}
use Rattle.std.proofs.lemmas.Result.{err_from_is_err_and}
use Rattle.rgc_line.specs.declared.command.Command.TheVariants.{Number}
use Rattle.rgc_commands.proofs.Stopping.{device_stop}
use Rattle.rgc_commands.proofs.texts.number.Goals as goal

pub returns-in_err-text-clause-stopped : goal.returns-in_err-text-clause-stopped
returns-in_err-text-clause-stopped c = λ s t.
    let p = err_from_is_err_and c.from_residual.result c.from_residual.ensures.1 in
    rw (p.1, p.2) (device_stop s (Number t) c.args.files.now _ (c.in_err-text.ensures.unread None))

pub returns-in_err-parsed-clause-stopped : goal.returns-in_err-parsed-clause-stopped
returns-in_err-parsed-clause-stopped c = λ s t.
    let p = err_from_is_err_and c.from_residual-in_err-parsed.result c.from_residual-in_err-parsed.ensures.1 in
    rw (p.1, p.2, c.in_ok-text.ensures.bytes) (inl c.in_err-parsed.ensures.refused)

pub returns-clause-answer : goal.returns-clause-answer
returns-clause-answer c = λ s t. rw c.in_ok-text.ensures.bytes c.in_ok-parsed.ensures.spells
