use Rattle.std.proofs.Common.{◌<◌, length, map, rules}
use Rattle.std.specs.Prelude.{string_bytes}
use Rattle.rgc.specs.Failures.{name_at}
use Rattle.rgc_answers.specs.Lines.{json_line}
use Rattle.rgc_answers.specs.Proofs.{unproved_data}
use Rattle.rgc_answers.proofs.Items.{item_added}
use Rattle.rgc_answers.proofs.proof_lines.unproved_lines.Goals as goal

pub loop-one-preserved : goal.loop-one-preserved
loop-one-preserved c =
    let us = c.args.unproved.now in
    let names = map string_bytes c.args.names.now in
    let i = c.loop-one.one-index in
    let within : i < length us = search rules in
    item_added (λ u. json_line (unproved_data c.args.words.now (name_at names u.number) u)) us i c.one-item.result _ (string_bytes c.in_ok-line.line) _ within c.loop-one.invariant (search rules) (search rules)
