use Rattle.std.proofs.Common.{◌≡◌, ◌++◌, map, drop}
use Rattle.rg_tree.specs.ProgramView.{part}
use Rattle.rgc_commands.specs.Priority.{ranks_of}
use Rattle.rgc_commands.specs.Inner.Named.{named}
use Rattle.rgc_commands.proofs.priority.ranks_of.Given as goal

-- those so far, and those of the rest
abbrev pub invariant-loop-part : goal.invariant-loop-part
invariant-loop-part l = l.order.items ++ ranks_of (map named l.list) (map part (drop l.part-index l.parts)) ≡ ranks_of (map named l.list) (map part l.parts)
