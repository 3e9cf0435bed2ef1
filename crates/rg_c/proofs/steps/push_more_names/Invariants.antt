use Rattle.std.proofs.Common.{◌≡◌, ◌++◌, drop}
use Rattle.std.specs.String.{string_bytes}
use Rattle.rg_c.specs.Steps.{more_names}
use Rattle.rg_c.proofs.steps.push_more_names.Given as goal

abbrev pub invariant-loop-word : goal.invariant-loop-word
invariant-loop-word l = string_bytes l.text ++ more_names l.layout (drop l.word-index l.words) ≡ string_bytes l.initial.text ++ more_names l.layout l.words
