use Rattle.std.proofs.Common.{◌≡◌, ◌-◌, ◌++◌, length, map}
use Rattle.std.specs.List.{range_with_len}
use Rattle.rgc_commands.specs.Flagged.{is_left_out, flags_for}
use Rattle.rgc_commands.proofs.names.flags_for.Given as goal

-- those so far, and those of the rest
abbrev pub invariant-loop-word : goal.invariant-loop-word
invariant-loop-word l = l.flags.items ++ map (is_left_out l.layout l.names l.flagged) (range_with_len l.word (length l.layout - l.word)) ≡ flags_for l.layout l.names l.flagged
