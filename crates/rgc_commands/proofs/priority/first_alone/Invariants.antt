use Rattle.std.proofs.Common.{◌≡◌, map, drop}
use Rattle.std.specs.Prelude.{find}
use Rattle.rgc_commands.specs.Priority.{is_alone}
use Rattle.rgc_commands.proofs.priority.first_alone.Given as goal

-- none of those so far
abbrev pub invariant-loop-core : goal.invariant-loop-core
invariant-loop-core l = find is_alone (map (λ t. t.now) (drop l.core-index l.cores)) ≡ find is_alone (map (λ t. t.now) l.cores)
