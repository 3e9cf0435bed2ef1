use Rattle.std.proofs.Common.{ℕ, List, Option, Some, None, inl}
use Rattle.std.specs.Borrow.{Bor}
use Rattle.std.proofs.lemmas.Result.{err_from_is_err_and}
use Rattle.rgc_line.specs.declared.command.Chosen.{Chosen}
use Rattle.rgc_line.specs.declared.command.Command.TheVariants.{Find}
use Rattle.rgc_line.specs.declared.command.Settings.{Settings}
use Rattle.rgc_commands.specs.declared.files.Files.{Files}
use Rattle.rgc_commands.specs.declared.stops.Stop.{Stop}
use Rattle.rgc_commands.specs.Stops.{IsStop, text_line, derivation_line}
use Rattle.rgc_commands.specs.Inner.Stops.{IsDevice}
use Rattle.rgc_commands.proofs.Stopping.{read_past, device_stop}
use Rattle.rgc_commands.proofs.texts.find_of.Goals as goal

-- the text can't be read, of a formula or of a condition
chosen_device : (s : Settings) (t : Bor (List ℕ)) (steps : ℕ) (chosen : Option Chosen) (files : Files) (stop : Stop) → ((rest : Option (List ℕ)) → IsDevice (text_line files rest) stop) → IsStop s (Find t steps chosen) files stop
chosen_device s t steps None files stop h = device_stop s (Find t steps None) files stop (h None)
chosen_device s t steps (Some chosen) files stop h = device_stop s (Find t steps (Some chosen)) files stop (h (derivation_line files None))

pub returns-in_err-text-clause-stopped : goal.returns-in_err-text-clause-stopped
returns-in_err-text-clause-stopped g c = λ s t.
    let p = err_from_is_err_and c.from_residual.result c.from_residual.ensures.1 in
    rw (p.1, p.2) (chosen_device s t c.args.steps c.args.chosen c.args.files.now _ c.in_err-text.ensures.unread)

pub returns-in_err-condition-in-None-clause-stopped : goal.returns-in_err-condition-in-None-clause-stopped
returns-in_err-condition-in-None-clause-stopped g c = λ s t.
    let p = err_from_is_err_and c.from_residual-in_err-condition-in-None.result c.from_residual-in_err-condition-in-None.ensures.1 in
    rw (p.1, p.2, c.in-None.is, c.in_ok-text.ensures.bytes) (inl c.in_err-condition-in-None.ensures.refused)

pub returns-in_err-derivation-in-Some-clause-stopped : goal.returns-in_err-derivation-in-Some-clause-stopped
returns-in_err-derivation-in-Some-clause-stopped g c = λ s t.
    let p = err_from_is_err_and c.from_residual-in_err-derivation-in-Some.result c.from_residual-in_err-derivation-in-Some.ensures.1 in
    rw (p.1, p.2, c.in-Some.is) (device_stop s (Find t c.args.steps (Some c.in-Some.chosen)) c.args.files.now _ (read_past _ _ _ _ _ c.in_ok-text.ensures.bytes (c.in_err-derivation-in-Some.ensures.unread None)))

pub returns-in_err-condition-in-Some-clause-stopped : goal.returns-in_err-condition-in-Some-clause-stopped
returns-in_err-condition-in-Some-clause-stopped g c = λ s t.
    let p = err_from_is_err_and c.from_residual-in_err-condition-in-Some.result c.from_residual-in_err-condition-in-Some.ensures.1 in
    rw (p.1, p.2, c.in-Some.is, c.in_ok-text.ensures.bytes, c.in_ok-derivation-in-Some.ensures.bytes) (inl c.in_err-condition-in-Some.ensures.refused)

pub returns-in_ok-condition-in-None-clause-answer : goal.returns-in_ok-condition-in-None-clause-answer
returns-in_ok-condition-in-None-clause-answer g c = λ s t. rw (c.in-None.is, c.in_ok-text.ensures.bytes) (record { shown = c.in_ok-condition-in-None.ensures.formula; judged = c.in_ok-condition-in-None.ensures.judged; clauses = c.in_ok-condition-in-None.ensures.clauses; holds = c.in_ok-condition-in-None.ensures.holds })

pub returns-in_ok-condition-in-Some-clause-answer : goal.returns-in_ok-condition-in-Some-clause-answer
returns-in_ok-condition-in-Some-clause-answer g c = λ s t. rw (c.in-Some.is, c.in_ok-text.ensures.bytes, c.in_ok-derivation-in-Some.ensures.bytes) (c.in_ok-condition-in-Some.ensures.chosen, c.in_ok-condition-in-Some.ensures.judged)
