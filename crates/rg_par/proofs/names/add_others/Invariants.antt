use Rattle.std.proofs.Common.{◌≡◌, ◌++◌, suc, map, drop}
use Rattle.std.specs.Prelude.{string_bytes}
use Rattle.rg_tree.specs.ProgramView.{part}
use Rattle.rg_par.specs.Names.{other_names}
use Rattle.rg_par.proofs.names.add_others.Given as goal

abbrev pub invariant-loop-j : goal.invariant-loop-j
invariant-loop-j l =
    map string_bytes l.all.items ++ other_names l.i (part l.own) (suc l.j) (map part (drop l.j l.parts)) ≡ map string_bytes l.initial.all.items ++ other_names l.i (part l.own) 1 (map part l.parts)
