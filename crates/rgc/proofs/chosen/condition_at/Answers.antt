use Rattle.std.proofs.Common.{◌-◌, rules, arith}
use Rattle.rg_tree.specs.Conditions.{condition_tree}
use Rattle.rg_rules.proofs.Find.{nth-at}
use Rattle.rgc.proofs.chosen.condition_at.Goals as goal

pub returns-clause-found : goal.returns-clause-found
returns-clause-found c =
    nth-at condition_tree c.args.conditions.items (c.args.number - 1) c.args.number c.swap_remove.result (omega (arith, c.if-number-eq0.false)) (search rules) (search rules)
