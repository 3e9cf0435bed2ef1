use Rattle.std.proofs.Common.{◌≡◌, ◌++◌, map, drop}
use Rattle.rgc_commands.specs.Priority.{named_from}
use Rattle.rgc_commands.specs.Inner.Named.{named}
use Rattle.rgc_commands.proofs.priority.named_on_all.Given as goal

-- those so far, and those of the rest
abbrev pub invariant-loop-core : goal.invariant-loop-core
invariant-loop-core l = map named l.list.items ++ named_from l.core (map (λ t. t.now) (drop l.core l.cores)) ≡ named_from 0 (map (λ t. t.now) l.cores)
