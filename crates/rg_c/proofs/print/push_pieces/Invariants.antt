use Rattle.std.proofs.Common.{◌≡◌, ◌++◌, map, drop}
use Rattle.std.specs.String.{string_bytes}
use Rattle.rg_c.specs.Printed.{joined}
use Rattle.rg_c.specs.View.{piece}
use Rattle.rg_c.proofs.print.push_pieces.Given as goal

abbrev pub invariant-loop-piece : goal.invariant-loop-piece
invariant-loop-piece l =
    string_bytes l.text ++ joined (map (piece l.s.layout.now l.s.reads.now) (drop l.piece-index l.pieces)) ≡ string_bytes l.initial.text ++ joined (map (piece l.s.layout.now l.s.reads.now) l.pieces)
