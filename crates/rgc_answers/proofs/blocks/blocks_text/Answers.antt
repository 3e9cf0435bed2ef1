use Rattle.std.proofs.Common.{◌≡◌, ◌∙◌, ◌<◌, ◌+◌, ◌++◌, length, map, min, ap, sym, rules, arith}
use Rattle.std.specs.Prelude.{string_bytes}
use Rattle.std.proofs.lemmas.List.{length-map}
use Rattle.rg_tree.specs.Conditions.{condition_tree}
use Rattle.rgc_answers.specs.Blocks.{block_text}
use Rattle.rgc_answers.proofs.Written.{block_at, blocks_end}
use Rattle.rgc_answers.proofs.blocks.blocks_text.Goals as goal

pub loop-i-preserved : goal.loop-i-preserved
loop-i-preserved c =
    let names = c.args.names.now in
    let cs = c.args.conditions.now in
    let i = c.loop-i.i in
    let less : i < length names = omega (arith, c.loop-i-test.true, c.min-count.ensures) in
    let small : i < length cs = omega (arith, c.loop-i-test.true, c.min-count.ensures) in
    let block = block_text (i + 1) (string_bytes c.index-names-i.result) (condition_tree c.index-conditions-i.result) in
    let pushed : string_bytes c.push_str.new.self ≡ string_bytes c.loop-i.text ++ block = search rules in
    pushed ∙ ap (λ l. l ++ block) c.loop-i.invariant ∙ sym (block_at names cs i c.index-names-i.result c.index-conditions-i.result less small c.index-names-i.is c.index-conditions-i.is)

pub returns : goal.returns
returns c =
    let names = c.args.names.now in
    let cs = c.args.conditions.now in
    let many : c.loop-i.i ≡ min (length (map string_bytes names)) (length (map condition_tree cs)) =
    omega (arith, c.loop-i-test.false, c.loop-i.auto.i-end, c.min-count.ensures, length-map names string_bytes, length-map cs condition_tree) in
    c.loop-i.invariant ∙ blocks_end 1 (map string_bytes names) (map condition_tree cs) c.loop-i.i many
