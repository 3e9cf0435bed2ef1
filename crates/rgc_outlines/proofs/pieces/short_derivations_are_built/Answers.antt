use Rattle.rgc_outlines.proofs.Short.{short_built}
use Rattle.rgc_outlines.proofs.pieces.short_derivations_are_built.Goals as goal

pub returns : goal.returns
returns c = short_built
