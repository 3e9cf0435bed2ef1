use Rattle.std.proofs.Common.{◌≡◌, take}
use Rattle.std.specs.Prelude.{string_bytes}
use Rattle.std.specs.List.{flat_map}
use Rattle.rgc_answers.specs.Proofs.{piece_text}
use Rattle.rgc_answers.proofs.proof_lines.proofs_text.Given as goal

-- the pieces so far
abbrev pub invariant-loop-piece : goal.invariant-loop-piece
invariant-loop-piece l = string_bytes l.text ≡ flat_map (λ piece. piece_text l.format l.range (string_bytes piece)) (take l.piece-index l.pieces)
