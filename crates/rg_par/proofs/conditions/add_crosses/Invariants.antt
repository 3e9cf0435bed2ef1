use Rattle.std.proofs.Common.{◌≡◌, ◌++◌, suc, map, drop}
use Rattle.rg_tree.specs.ProgramView.{part}
use Rattle.rg_tree.specs.Conditions.{condition_tree}
use Rattle.rg_tree.specs.RuleConditions.{as_condition}
use Rattle.rg_par.specs.Parallel.{cross_conditions}
use Rattle.rg_par.proofs.conditions.add_crosses.Given as goal

abbrev pub invariant-loop-i : goal.invariant-loop-i
invariant-loop-i l =
    map condition_tree l.all.items ++ map (as_condition l.layout) (cross_conditions (map part l.parts) (suc l.i) (map part (drop l.i l.parts)))
    ≡ map condition_tree l.initial.all.items ++ map (as_condition l.layout) (cross_conditions (map part l.parts) 1 (map part l.parts))
