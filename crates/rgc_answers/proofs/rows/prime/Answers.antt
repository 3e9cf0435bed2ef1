use Rattle.std.proofs.lemmas.List.{map-set}
use Rattle.rg_tree.specs.View.{expression}
use Rattle.rg_tree.specs.declared.tree.Expr.TheVariants.{NextWord}
use Rattle.rgc_answers.proofs.rows.prime.Goals as goal

pub returns-clause-row : goal.returns-clause-row
returns-clause-row c = map-set expression c.args.row.now.items c.args.word (NextWord c.args.word)
