use Rattle.std.proofs.Common.{◌≡◌, ◌∙◌, ◌<◌, ◌-◌, length, map, rules, sym, Some, None}
use Rattle.std.proofs.lemmas.List.{get_or_default}
use Rattle.std.specs.Prelude.{slice_index_or}
use Rattle.rg_tree.specs.Conditions.{condition_tree}
use Rattle.rgc.proofs.Search.{known_answer}
use Rattle.rgc.proofs.proofs_found.judged_at.Goals as goal

pub returns-in-Some-clause-answer : goal.returns-in-Some-clause-answer
returns-in-Some-clause-answer g c =
    let known = c.args.known.now in
    let index = c.args.place - c.args.from in
    let small : index < length known = search rules in
    let some : c.index-known-index.result ≡ Some c.in-Some.sought = search rules in
    let is : slice_index_or known index None ≡ Some c.in-Some.sought = get_or_default known index None c.index-known-index.result small ∙ sym c.index-known-index.is ∙ some in
    known_answer (map condition_tree c.args.conditions.now) c.args.from c.args.place c.args.settings.now.steps known c.in-Some.sought c.requires.from small c.requires.known is
