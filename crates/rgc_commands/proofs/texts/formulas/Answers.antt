use Rattle.std.proofs.Common.{◌∙◌, None, inl, inr, sym}
use Rattle.std.proofs.lemmas.Result.{err_from_is_err_and}
use Rattle.rgc_line.specs.declared.command.Command.TheVariants.{Conditions}
use Rattle.std.proofs.Common.{true}
use Rattle.rgc_commands.proofs.Stopping.{device_stop}
use Rattle.rgc_commands.proofs.texts.formulas.Goals as goal

pub returns-then-not-is_plain-clause-stopped : goal.returns-then-not-is_plain-clause-stopped
returns-then-not-is_plain-clause-stopped c = λ s t d same. inr (rw same (sym c.is_plain.ensures ∙ c.if-not-is_plain.true))

pub returns-in_err-text-clause-stopped : goal.returns-in_err-text-clause-stopped
returns-in_err-text-clause-stopped c = λ s t d same.
    let p = err_from_is_err_and c.from_residual.result c.from_residual.ensures.1 in
    rw (p.1, p.2) (device_stop s (Conditions t d true) c.args.files.now _ (c.in_err-text.ensures.unread None))

pub returns-in_err-derived-clause-stopped : goal.returns-in_err-derived-clause-stopped
returns-in_err-derived-clause-stopped c = λ s t d same.
    let p = err_from_is_err_and c.from_residual-in_err-derived.result c.from_residual-in_err-derived.ensures.1 in
    rw (p.1, p.2, c.in_ok-text.ensures.text, c.in_ok-text.ensures.derivation) (inl c.in_err-derived.ensures.refused)

pub returns-clause-answer : goal.returns-clause-answer
returns-clause-answer c = λ s t d same. (rw same (sym c.is_plain.ensures ∙ c.if-not-is_plain.false), rw (c.in_ok-text.ensures.text, c.in_ok-text.ensures.derivation) c.in_ok-derived.ensures.derived)
