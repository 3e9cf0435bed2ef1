use Rattle.std.proofs.Common.{map, take}
use Rattle.rg_hints.specs.Placed.{text_of}
use Rattle.rg_pool.specs.Inner.PieceSections.{AreUpTo, AreSectionsTo}
use Rattle.rg_pool.proofs.proof_pieces.sections_of.Given as goal

-- the sections so far are those of the pieces so far, and rise
abbrev pub invariant-loop-piece : goal.invariant-loop-piece
invariant-loop-piece l =
    AreUpTo l.last l.all.items × AreSectionsTo l.count 0 (map (λ piece. piece.now) (take l.piece-index l.pieces)) (map text_of l.all.items) l.last
