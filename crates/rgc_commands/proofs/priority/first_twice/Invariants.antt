use Rattle.std.proofs.Common.{◌≡◌, map, drop}
use Rattle.rgc_commands.specs.Priority.{first_twice}
use Rattle.rgc_commands.specs.Inner.Named.{named}
use Rattle.rgc_commands.proofs.priority.first_twice.Given as goal

-- none of those so far
abbrev pub invariant-loop-i : goal.invariant-loop-i
invariant-loop-i l = first_twice (map named (drop l.i l.list)) ≡ first_twice (map named l.list)
