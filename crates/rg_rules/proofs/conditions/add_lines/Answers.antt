use Rattle.std.proofs.Common.{rules}
use Rattle.rg_rules.proofs.Typed.{line_typed}
use Rattle.rg_rules.proofs.conditions.add_lines.Goals as goal

pub add_line-requires-clause-line : goal.add_line-requires-clause-line
add_line-requires-clause-line c =
    line_typed c.args.layout.now c.args.lines.now c.loop-line.line-index c.line-item.result c.requires.lines (search rules) (search rules)
