use Rattle.std.proofs.Common.{◌<◌, length, rules}
use Rattle.std.specs.Prelude.{string_bytes}
use Rattle.rgc_answers.specs.Lines.{json_line}
use Rattle.rgc_answers.specs.Records.{passed_data}
use Rattle.rgc_answers.proofs.Items.{item_added}
use Rattle.rgc_answers.proofs.run_json.passed_text.Goals as goal

pub loop-each-preserved : goal.loop-each-preserved
loop-each-preserved c =
    let passed = c.args.passed.now in
    let i = c.loop-each.each-index in
    let within : i < length passed = search rules in
    item_added (λ p. json_line (passed_data p)) passed i _ _ (string_bytes c.in_ok-line.line) _ within c.loop-each.invariant c.in_ok-line.ensures (search rules)
