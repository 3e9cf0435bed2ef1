use Rattle.std.proofs.Common.{Some, sym, ap, ◌∙◌, arith}
use Rattle.rg_rules.specs.Inner.View.{referred}
use Rattle.rg_rules.proofs.Find.{nth-map}
use Rattle.rg_rules.proofs.table.statement_at.Goals as goal

pub returns-else-number-list-clause-exact : goal.returns-else-number-list-clause-exact
returns-else-number-list-clause-exact c =
    sym (nth-map referred c.args.list.now c.args.number c.index-list-number.result (omega arith) (omega arith) ∙ ap (λ r. Some (referred r)) (sym c.index-list-number.is))
