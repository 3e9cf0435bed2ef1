use Rattle.std.proofs.Common.{◌≡◌, map, take}
use Rattle.std.specs.Prelude.{string_bytes}
use Rattle.rgc_answers.specs.Proofs.{unproved_lines}
use Rattle.rgc_answers.proofs.proof_lines.unproved_lines.Given as goal

-- the lines so far
abbrev pub invariant-loop-one : goal.invariant-loop-one
invariant-loop-one l = string_bytes l.text ≡ unproved_lines l.words (map string_bytes l.names) (take l.one-index l.unproved)
