use Rattle.std.proofs.Common.{◌≡◌, ◌∙◌, ◌+◌, ◌++◌, ap, sym, rules}
use Rattle.std.specs.Prelude.{string_bytes}
use Rattle.rgc_answers.specs.Conditions.{condition_line}
use Rattle.rgc_answers.proofs.ConditionLines.{lines_taken}
use Rattle.rgc_answers.proofs.conditions.names_text.Goals as goal

pub loop-i-preserved : goal.loop-i-preserved
loop-i-preserved c =
    let line = condition_line c.args.format (c.loop-i.i + 1) (string_bytes c.index-names-i.result) in
    let pushed : string_bytes c.push_str.new.self ≡ string_bytes c.loop-i.text ++ line = search rules in
    pushed ∙ ap (λ l. l ++ line) c.loop-i.invariant ∙ sym (lines_taken c.args.format (λ s. string_bytes s) c.args.names.now c.loop-i.i c.index-names-i.result (search rules) c.index-names-i.is)
