use Rattle.std.proofs.Common.{◌<◌, length, rules}
use Rattle.std.specs.Prelude.{string_bytes}
use Rattle.rgc_answers.specs.Running.{passed_line}
use Rattle.rgc_answers.proofs.Items.{item_added}
use Rattle.rgc_answers.proofs.running.passed_lines.Goals as goal

pub loop-each-preserved : goal.loop-each-preserved
loop-each-preserved c =
    let passed = c.args.passed.now in
    let i = c.loop-each.each-index in
    let within : i < length passed = search rules in
    item_added passed_line passed i _ _ (string_bytes c.in_ok-line.line) _ within c.loop-each.invariant c.in_ok-line.ensures (search rules)
