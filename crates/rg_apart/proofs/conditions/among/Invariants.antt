use Rattle.std.proofs.Common.{◌≡◌, ◌++◌, map, drop}
use Rattle.rg_tree.specs.Conditions.{condition_tree}
use Rattle.rg_tree.specs.RuleConditions.{as_condition}
use Rattle.rg_apart.specs.Conditions.{apart_among}
use Rattle.rg_apart.specs.Inner.View.{visit}
use Rattle.rg_apart.proofs.conditions.among.Given as goal

-- those so far, and the rest
abbrev pub invariant-loop-i : goal.invariant-loop-i
invariant-loop-i l =
    map condition_tree l.all.items ++ map (as_condition l.layout) (apart_among (map visit (drop l.i l.list)))
    ≡ map (as_condition l.layout) (apart_among (map visit l.list))
