use Rattle.std.proofs.Common.{◌≡◌, map, take}
use Rattle.std.specs.Prelude.{string_bytes}
use Rattle.rgc.specs.Pieces.{bytes_of}
use Rattle.rgc.proofs.proofs_found.bytes_of_pieces.Given as goal

-- the bytes of the pieces so far
abbrev pub invariant-loop-piece : goal.invariant-loop-piece
invariant-loop-piece l = bytes_of l.all.items ≡ map string_bytes (take l.piece-index l.pieces)
