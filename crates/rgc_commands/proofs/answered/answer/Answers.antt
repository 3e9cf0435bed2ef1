use Rattle.std.proofs.Common.{◌∙◌, sym, inl}
use Rattle.rgc_commands.proofs.Answering.{on_ok_any}
use Rattle.rgc_commands.proofs.answered.answer.Goals as goal

pub returns-then-not-fits-clause-stopped : goal.returns-then-not-fits-clause-stopped
returns-then-not-fits-clause-stopped g c = inl (sym c.fits.ensures ∙ c.if-not-fits.true)

pub returns-clause-fit : goal.returns-clause-fit
returns-clause-fit g c = on_ok_any c.answer_of.result _ (sym c.fits.ensures ∙ c.if-not-fits.false)
