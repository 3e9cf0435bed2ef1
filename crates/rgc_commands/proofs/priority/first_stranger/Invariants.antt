use Rattle.std.proofs.Common.{◌≡◌, map, drop}
use Rattle.rg_tree.specs.ProgramView.{part}
use Rattle.rgc_commands.specs.Priority.{first_stranger}
use Rattle.rgc_commands.specs.Inner.Named.{named}
use Rattle.rgc_commands.proofs.priority.first_stranger.Given as goal

-- none of those so far
abbrev pub invariant-loop-one : goal.invariant-loop-one
invariant-loop-one l = first_stranger (map part l.parts) (map named (drop l.one-index l.list)) ≡ first_stranger (map part l.parts) (map named l.list)
