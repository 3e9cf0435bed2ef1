use Rattle.std.proofs.Common.{◌≡◌, map, take}
use Rattle.std.specs.Prelude.{string_bytes}
use Rattle.rgc_answers.specs.Conditions.{condition_lines}
use Rattle.rgc_answers.proofs.conditions.names_text.Given as goal

-- the lines so far
abbrev pub invariant-loop-i : goal.invariant-loop-i
invariant-loop-i l = string_bytes l.text ≡ condition_lines l.format 1 (map string_bytes (take l.i l.names))
