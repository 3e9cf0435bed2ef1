use Rattle.std.proofs.Common.{inl, inr, refl}
use Rattle.rgc_commands.proofs.performed.report_refusal.Goals as goal

pub returns-in_default-clause-reported : goal.returns-in_default-clause-reported
returns-in_default-clause-reported g c = inr (refl, c.report_text.ensures)

pub returns-clause-reported : goal.returns-clause-reported
returns-clause-reported g c = inl (c.args.below.now, c.requires.below, c.status_of.ensures.number, rw (← c.in-Ok.ensures, ← c.as_bytes.ensures.value) c.report_both.ensures)
