use Rattle.std.proofs.Common.{map, rules}
use Rattle.rg_tree.specs.ProgramView.{specification}
use Rattle.rg_tree.specs.Lines.{line_tree}
use Rattle.rg_conditions.proofs.Typed.{first_typed}
use Rattle.rg_conditions.proofs.conditions.add_line.Goals as goal

pub add_conseq-requires-clause-from : goal.add_conseq-requires-clause-from
add_conseq-requires-clause-from c =
    first_typed c.args.layout.now (map line_tree c.args.lines.now) c.args.line.now.premises.items (specification c.in-Some.from.now) c.requires.lines (search rules)
