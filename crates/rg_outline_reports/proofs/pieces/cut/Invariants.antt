use Rattle.std.proofs.Common.{◌≡◌, ◌++◌, map}
use Rattle.std.specs.List.{concat}
use Rattle.rg_outline_reports.proofs.pieces.cut.Given as goal

-- the pieces so far with what is left are the bytes
abbrev pub invariant-loop-place : goal.invariant-loop-place
invariant-loop-place l = concat (map (λ piece. piece.now) l.pieces.items) ++ l.rest ≡ l.bytes
