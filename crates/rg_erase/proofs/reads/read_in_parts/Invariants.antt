use Rattle.std.proofs.Common.{◌≡◌, map, drop}
use Rattle.rg_tree.specs.ProgramView.{part}
use Rattle.rg_erase.specs.Faults.{read_in_parts}
use Rattle.rg_erase.proofs.reads.read_in_parts.Given as goal

-- those so far read none
abbrev pub invariant-loop-part : goal.invariant-loop-part
invariant-loop-part l = read_in_parts l.erased (map part (drop l.part-index l.parts)) ≡ read_in_parts l.erased (map part l.parts)
