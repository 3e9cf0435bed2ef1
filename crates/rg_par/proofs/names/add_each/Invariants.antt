use Rattle.std.proofs.Common.{◌≡◌, ◌++◌, map, drop}
use Rattle.std.specs.Prelude.{string_bytes}
use Rattle.rg_tree.specs.ProgramView.{part}
use Rattle.rg_par.specs.Names.{of_part}
use Rattle.rg_par.proofs.names.add_each.Given as goal

abbrev pub invariant-loop-part : goal.invariant-loop-part
invariant-loop-part l =
    map string_bytes l.all.items ++ map (of_part l.start) (map part (drop l.part-index l.parts)) ≡ map string_bytes l.initial.all.items ++ map (of_part l.start) (map part l.parts)
