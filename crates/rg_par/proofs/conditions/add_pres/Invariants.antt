use Rattle.std.proofs.Common.{◌≡◌, ◌++◌, map, drop}
use Rattle.rg_tree.specs.View.{formula}
use Rattle.rg_tree.specs.ProgramView.{part}
use Rattle.rg_tree.specs.Conditions.{condition_tree}
use Rattle.rg_tree.specs.RuleConditions.{as_condition}
use Rattle.rg_par.specs.Parallel.{pre_conditions}
use Rattle.rg_par.proofs.conditions.add_pres.Given as goal

abbrev pub invariant-loop-part : goal.invariant-loop-part
invariant-loop-part l =
    map condition_tree l.all.items ++ map (as_condition l.layout) (pre_conditions (formula l.pre) (map part (drop l.part-index l.parts)))
    ≡ map condition_tree l.initial.all.items ++ map (as_condition l.layout) (pre_conditions (formula l.pre) (map part l.parts))
