use Rattle.std.proofs.Common.{◌≡◌, take}
use Rattle.std.specs.Prelude.{string_bytes}
use Rattle.rgc_answers.specs.Running.{passed_text}
use Rattle.rgc_answers.proofs.running.passed_lines.Given as goal

-- the lines so far
abbrev pub invariant-loop-each : goal.invariant-loop-each
invariant-loop-each l = string_bytes l.lines ≡ passed_text (take l.each-index l.passed)
