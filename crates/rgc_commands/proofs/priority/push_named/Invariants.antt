use Rattle.std.proofs.Common.{◌≡◌, ◌++◌, map, drop}
use Rattle.rgc_commands.specs.Priority.{named_on}
use Rattle.rgc_commands.specs.Inner.Named.{named}
use Rattle.rgc_commands.proofs.priority.push_named.Given as goal

-- those so far, and those of the rest
abbrev pub invariant-loop-place : goal.invariant-loop-place
invariant-loop-place l =
    map named l.list.items ++ named_on l.core l.place (map (λ t. t.now) (drop l.place l.names))
    ≡ map named l.initial.list.items ++ named_on l.core 0 (map (λ t. t.now) l.names)
