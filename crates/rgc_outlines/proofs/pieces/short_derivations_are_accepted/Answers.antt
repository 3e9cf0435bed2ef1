use Rattle.rgc_outlines.proofs.Short.{short_accepted}
use Rattle.rgc_outlines.proofs.pieces.short_derivations_are_accepted.Goals as goal

pub returns : goal.returns
returns c = short_accepted
