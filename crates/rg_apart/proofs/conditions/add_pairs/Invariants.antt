use Rattle.std.proofs.Common.{◌≡◌, ◌++◌, map, drop}
use Rattle.std.specs.List.{flat_map}
use Rattle.rg_tree.specs.Conditions.{condition_tree}
use Rattle.rg_tree.specs.RuleConditions.{as_condition}
use Rattle.rg_apart.specs.Conditions.{kept_apart}
use Rattle.rg_apart.specs.Inner.View.{visit}
use Rattle.rg_apart.proofs.conditions.add_pairs.Given as goal

-- those so far, and the rest
abbrev pub invariant-loop-v : goal.invariant-loop-v
invariant-loop-v l =
    map condition_tree l.all.items ++ map (as_condition l.layout) (flat_map (kept_apart (visit l.u)) (map visit (drop l.v-index l.list)))
    ≡ map condition_tree l.initial.all.items ++ map (as_condition l.layout) (flat_map (kept_apart (visit l.u)) (map visit l.list))
