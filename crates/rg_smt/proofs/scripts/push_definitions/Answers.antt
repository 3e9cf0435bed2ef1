use Rattle.std.proofs.Common.{◌≡◌, ◌++◌, ◌+◌, ◌<◌, length, map, take, drop, rules}
use Rattle.std.specs.String.{string_bytes}
use Rattle.rg_tree.specs.ConditionTrees.{assignment}
use Rattle.rg_smt.specs.Scripts.{definition, definitions}
use Rattle.rg_smt.proofs.Pushed.{one_more}
use Rattle.rg_smt.proofs.Rest.{definitions_next}
use Rattle.rg_smt.proofs.scripts.push_definitions.Goals as goal

pub loop-place-preserved : goal.loop-place-preserved
loop-place-preserved c =
    let words = c.args.layout.now in
    let act = c.args.act.now in
    let k = c.loop-place.place in
    let a = c.index-act-place.result in
    let less : k < length act = search rules in
    let pushed : string_bytes c.push_definition.new.text ≡ string_bytes c.loop-place.text ++ definition words (map assignment (take k act)) (assignment a) = search rules in
    one_more (string_bytes c.loop-place.text) _ (definition words (map assignment (take k act)) (assignment a))
    (definitions words (map assignment (take (k + 1) act)) (map assignment (drop (k + 1) act))) _ _
    pushed (definitions_next words act k a less c.index-act-place.is) c.loop-place.invariant
