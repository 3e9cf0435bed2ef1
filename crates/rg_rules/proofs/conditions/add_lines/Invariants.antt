use Rattle.std.proofs.Common.{◌≡◌, ◌++◌, map, drop}
use Rattle.rg_tree.specs.Conditions.{condition_tree}
use Rattle.rg_tree.specs.RuleConditions.{as_condition}
use Rattle.rg_tree.specs.Lines.{line_tree}
use Rattle.rg_rules.specs.Derivations.{conditions_asked}
use Rattle.rg_rules.specs.Inner.View.{referred}
use Rattle.rg_rules.proofs.conditions.add_lines.Given as goal

abbrev pub invariant-loop-line : goal.invariant-loop-line
invariant-loop-line l =
    map condition_tree l.all.items ++ map (as_condition l.layout) (conditions_asked (map referred l.list) (map line_tree l.lines) (map line_tree (drop l.line-index l.lines)))
    ≡ map condition_tree l.initial.all.items ++ map (as_condition l.layout) (conditions_asked (map referred l.list) (map line_tree l.lines) (map line_tree l.lines))
