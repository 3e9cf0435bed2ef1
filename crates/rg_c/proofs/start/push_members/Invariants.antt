use Rattle.std.proofs.Common.{◌≡◌, ◌++◌, drop}
use Rattle.std.specs.String.{string_bytes}
use Rattle.rg_c.specs.Starts.{more_members}
use Rattle.rg_c.proofs.start.push_members.Given as goal

abbrev pub invariant-loop-word : goal.invariant-loop-word
invariant-loop-word l = string_bytes l.text ++ more_members l.layout l.word (drop l.word l.state.values) ≡ string_bytes l.initial.text ++ more_members l.layout 1 (drop 1 l.state.values)
