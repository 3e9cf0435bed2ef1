use Rattle.std.proofs.Common.{◌≡◌, map, drop}
use Rattle.rgc_commands.specs.Priority.{rank_named}
use Rattle.rgc_commands.specs.Inner.Named.{named}
use Rattle.rgc_commands.proofs.priority.rank_named.Given as goal

-- none of those so far
abbrev pub invariant-loop-one : goal.invariant-loop-one
invariant-loop-one l = rank_named (map named (drop l.one-index l.list)) l.name ≡ rank_named (map named l.list) l.name
