use Rattle.std.proofs.Common.{◌≡◌, map, take}
use Rattle.std.specs.Prelude.{string_bytes}
use Rattle.rgc.specs.Failures.{failures_text}
use Rattle.rgc.proofs.proofs_found.unproved_texts.Given as goal

-- the text of the conditions so far
abbrev pub invariant-loop-one : goal.invariant-loop-one
invariant-loop-one l = record {
  text : string_bytes l.text ≡ failures_text l.words (map string_bytes l.names) (take l.one-index l.unproved);
}
