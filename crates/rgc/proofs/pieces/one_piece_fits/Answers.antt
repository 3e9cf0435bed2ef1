use Rattle.rgc.proofs.InPieces.{one_piece}
use Rattle.rgc.proofs.pieces.one_piece_fits.Goals as goal

pub returns : goal.returns
returns c = one_piece
