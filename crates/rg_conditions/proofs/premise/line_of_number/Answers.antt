use Rattle.std.proofs.Common.{Some, sym, ap, ◌∙◌, arith}
use Rattle.rg_tree.specs.Lines.{line_tree}
use Rattle.rg_conditions.proofs.Found.{nth-map}
use Rattle.rg_conditions.proofs.premise.line_of_number.Goals as goal

pub returns-else-number-lines : goal.returns-else-number-lines
returns-else-number-lines c =
    sym (nth-map line_tree c.args.lines.now c.args.number c.index-lines-number.result (omega arith) (omega arith) ∙ ap (λ l. Some (line_tree l)) (sym c.index-lines-number.is))
