use Rattle.std.proofs.Common.{rules}
use Rattle.rg_tree.specs.View.{formula}
use Rattle.rgc_answers.proofs.conditions.pre_text.Goals as goal

pub print-requires : goal.print-requires
print-requires c =
    c.typed_trees_fit.ensures.formulas c.args.program.now.layout (search rules) (formula c.args.program.now.spec.pre) c.args.program.now.typed.spec.0.0
