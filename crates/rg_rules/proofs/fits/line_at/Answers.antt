use Rattle.std.proofs.Common.{Some, sym, ap, ◌∙◌, arith}
use Rattle.rg_tree.specs.Lines.{line_tree}
use Rattle.rg_rules.proofs.Find.{nth-map}
use Rattle.rg_rules.proofs.fits.line_at.Goals as goal

pub returns : goal.returns
returns c =
    nth-map line_tree c.args.lines.now c.args.number c.index-lines-number.result (omega arith) (omega arith) ∙ ap (λ l. Some (line_tree l)) (sym c.index-lines-number.is)
