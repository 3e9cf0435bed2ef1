use Rattle.rgc.proofs.InPieces.{one_piece_built}
use Rattle.rgc.proofs.pieces.one_piece_is_built.Goals as goal

pub returns : goal.returns
returns c = one_piece_built
