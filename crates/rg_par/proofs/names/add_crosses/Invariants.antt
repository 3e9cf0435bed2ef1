use Rattle.std.proofs.Common.{◌≡◌, ◌++◌, suc, map, drop}
use Rattle.std.specs.Prelude.{string_bytes}
use Rattle.rg_tree.specs.ProgramView.{part}
use Rattle.rg_par.specs.Names.{cross_names}
use Rattle.rg_par.proofs.names.add_crosses.Given as goal

abbrev pub invariant-loop-i : goal.invariant-loop-i
invariant-loop-i l =
    map string_bytes l.all.items ++ cross_names (map part l.parts) (suc l.i) (map part (drop l.i l.parts)) ≡ map string_bytes l.initial.all.items ++ cross_names (map part l.parts) 1 (map part l.parts)
