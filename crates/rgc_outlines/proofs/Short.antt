-- Derivations that are no longer than a file may be.
use Rattle.std.proofs.Common.{ℕ, List, [], ◌∷◌, subst}
use Rattle.rgc.specs.Pieces.{AreAcceptedInPieces, IsBuiltInPieces}
use Rattle.rgc.proofs.InPieces.{one_piece_accepted, one_piece_built}
use Rattle.rgc_outlines.specs.Cut.{ShortDerivationsAreAccepted, ShortDerivationsAreBuilt}

-- a short derivation is its only piece
pub short_accepted : ShortDerivationsAreAccepted
short_accepted text derivation proofs pieces p cut short accepted =
    (one_piece_accepted text derivation proofs p).0 (subst (λ (ps : List (List ℕ)). AreAcceptedInPieces text ps (proofs ∷ []) p) (cut.alone short) accepted)

pub short_built : ShortDerivationsAreBuilt
short_built text derivation proofs pieces p code cut short built =
    one_piece_built text derivation proofs p code (subst (λ (ps : List (List ℕ)). IsBuiltInPieces text ps (proofs ∷ []) p code) (cut.alone short) built)
