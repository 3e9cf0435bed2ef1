use Rattle.std.proofs.Common.{◌<◌, ◌≤◌, ◌+◌, length, map, rules, arith, inr}
use Rattle.rg_tree.specs.Conditions.{condition_tree}
use Rattle.rgc.proofs.Search.{taken_there, taken_or_holds, keep_more, first_unjudged}
use Rattle.rgc.proofs.proofs_found.search_in.Goals as goal

pub loop-place-preserved : goal.loop-place-preserved
loop-place-preserved g c =
    let cs = map condition_tree c.args.conditions.now in
    let place = c.loop-place.place in
    let small : place < length c.args.conditions.now = omega (arith, c.loop-place-test.true, c.requires.bound) in
    let order : c.args.from ≤ place = search rules in
    let low : c.args.from + 1 ≤ place + 1 = omega (arith, order) in
    record {
      reported = taken_there c.args.conditions.now place c.in-Ok.sought.judged c.loop-place.found.unproved.items c.take.new.self.unproved.items small (λ t is. (c.in-Ok.ensures.answer t is).0) c.loop-place.invariant.reported c.in_ok-take.ensures;
      others = taken_or_holds cs (c.args.from + 1) (place + 1) c.in-Ok.sought.judged c.loop-place.found.unproved.items c.take.new.self.unproved.items low (λ t is. (c.in-Ok.ensures.answer t is).0) c.loop-place.invariant.others c.in_ok-take.ensures;
      known = c.in-Ok.ensures.known;
      keep = keep_more cs (c.args.from + 1) (place + 1) c.in-Ok.sought c.loop-place.invariant.keep c.in-Ok.ensures.answer;
    }

pub returns-in-Err-clause-refused : goal.returns-in-Err-clause-refused
returns-in-Err-clause-refused g c = inr (first_unjudged (map condition_tree c.args.conditions.now) (c.args.from + 1) (c.loop-place.place + 1) c.args.settings.now.steps c.in-Err.refusal c.loop-place.invariant.keep c.in-Err.ensures.answer)
