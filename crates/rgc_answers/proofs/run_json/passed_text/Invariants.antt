use Rattle.std.proofs.Common.{◌≡◌, take}
use Rattle.std.specs.Prelude.{string_bytes}
use Rattle.rgc_answers.specs.Records.{passed_text}
use Rattle.rgc_answers.proofs.run_json.passed_text.Given as goal

-- the lines so far
abbrev pub invariant-loop-each : goal.invariant-loop-each
invariant-loop-each l = string_bytes l.text ≡ passed_text (take l.each-index l.passed)
