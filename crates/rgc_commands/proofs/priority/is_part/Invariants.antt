use Rattle.std.proofs.Common.{◌≡◌, map, drop}
use Rattle.rg_tree.specs.ProgramView.{part}
use Rattle.rgc_commands.specs.Priority.{is_part}
use Rattle.rgc_commands.proofs.priority.is_part.Given as goal

-- none of those so far
abbrev pub invariant-loop-part : goal.invariant-loop-part
invariant-loop-part l = is_part (map part (drop l.part-index l.parts)) l.name ≡ is_part (map part l.parts) l.name
