use Rattle.std.proofs.Common.{map, drop}
use Rattle.rg_tree.specs.Conditions.{condition_tree}
use Rattle.rg_tree.specs.RuleConditions.{AllConditionsHold}
use Rattle.rg_apart.proofs.search.are_found.Given as goal

-- all of those so far
abbrev pub invariant-loop-condition : goal.invariant-loop-condition
invariant-loop-condition g l = AllConditionsHold (map condition_tree (drop l.condition-index l.conditions)) → AllConditionsHold (map condition_tree l.conditions)
