use Rattle.std.proofs.Common.{◌≡◌, ◌++◌, suc, map, drop}
use Rattle.rg_tree.specs.View.{formula}
use Rattle.rg_tree.specs.ProgramView.{part}
use Rattle.rg_tree.specs.Conditions.{condition_tree}
use Rattle.rg_tree.specs.RuleConditions.{as_condition}
use Rattle.rg_par.specs.Parallel.{other_conditions}
use Rattle.rg_par.proofs.conditions.add_others.Given as goal

abbrev pub invariant-loop-j : goal.invariant-loop-j
invariant-loop-j l =
    map condition_tree l.all.items ++ map (as_condition l.layout) (other_conditions l.i (formula l.rely) (suc l.j) (map part (drop l.j l.parts)))
    ≡ map condition_tree l.initial.all.items ++ map (as_condition l.layout) (other_conditions l.i (formula l.rely) 1 (map part l.parts))
