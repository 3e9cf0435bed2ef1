use Rattle.std.proofs.Common.{◌<◌, length, map, rules}
use Rattle.std.specs.Prelude.{string_bytes}
use Rattle.rg_tree.specs.ProgramView.{part}
use Rattle.rgc_answers.specs.Numbers.{statement_line, part_name}
use Rattle.rgc_answers.proofs.Items.{item_added}
use Rattle.rgc_answers.proofs.numbers.lines_text.Goals as goal

pub loop-statement-preserved : goal.loop-statement-preserved
loop-statement-preserved c =
    let parts = map part c.args.parts.now in
    let statements = c.args.statements.now in
    let i = c.loop-statement.statement-index in
    let within : i < length statements = search rules in
    item_added (λ s. statement_line c.args.format (part_name parts s.part) s) statements i _ _ (string_bytes c.in_ok-line.line) _ within c.loop-statement.invariant (rw c.part_name-name.ensures at c.in_ok-line.ensures) (search rules)
