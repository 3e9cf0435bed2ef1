use Rattle.rgc.proofs.InPieces.{one_piece_accepted}
use Rattle.rgc.proofs.pieces.one_piece_is_accepted.Goals as goal

pub returns : goal.returns
returns c = one_piece_accepted
