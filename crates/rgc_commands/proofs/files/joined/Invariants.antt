use Rattle.std.proofs.Common.{◌≡◌, take}
use Rattle.std.specs.List.{concat}
use Rattle.rgc.specs.Pieces.{bytes_of}
use Rattle.rgc_commands.proofs.files.joined.Given as goal

-- the pieces so far
abbrev pub invariant-loop-piece : goal.invariant-loop-piece
invariant-loop-piece l = l.all.items ≡ concat (bytes_of (take l.piece-index l.pieces))
