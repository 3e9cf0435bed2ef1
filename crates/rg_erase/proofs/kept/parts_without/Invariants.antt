use Rattle.std.proofs.Common.{◌≡◌, ◌++◌, map, drop}
use Rattle.rg_tree.specs.ProgramView.{part}
use Rattle.rg_erase.specs.Erased.{part_without}
use Rattle.rg_erase.proofs.kept.parts_without.Given as goal

-- those so far, and the rest
abbrev pub invariant-loop-part : goal.invariant-loop-part
invariant-loop-part l = map part l.list.items ++ map (part_without l.erased l.own) (map part (drop l.part-index l.parts)) ≡ map (part_without l.erased l.own) (map part l.parts)
