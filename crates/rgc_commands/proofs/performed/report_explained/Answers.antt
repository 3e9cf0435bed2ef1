use Rattle.std.proofs.Common.{inr, refl}
use Rattle.rgc_commands.proofs.performed.report_explained.Goals as goal

pub returns-in_default-clause-reported : goal.returns-in_default-clause-reported
returns-in_default-clause-reported g c = inr (refl, c.report_text.ensures)
