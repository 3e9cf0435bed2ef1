use Rattle.std.proofs.Common.{map, take}
use Rattle.rg_tree.specs.Lines.{line_tree, AreTypedLines}
use Rattle.rg_accept.specs.Pieces.{AreSpelledInPieces}
use Rattle.rg_accept.proofs.stages.pieces.lines_of.Given as goal

-- the lines so far are typed, and they are those of the pieces so far
abbrev pub invariant-loop-piece : goal.invariant-loop-piece
invariant-loop-piece l =
    AreTypedLines l.layout (map line_tree l.all.items)
    × AreSpelledInPieces l.layout 1 (map (λ piece. piece.now) (take l.piece-index l.pieces)) (map line_tree l.all.items) l.last
