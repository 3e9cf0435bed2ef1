use Rattle.std.proofs.Common.{◌≡◌, ◌≤◌, rules, length, replicate, arith, ◌∙◌}
use Rattle.std.proofs.lemmas.List.{length-map, take_all}
use Rattle.rg_words.specs.Layout.{widths_of}
use Rattle.rg_words.proofs.Values.{IsState-zeros}
use Rattle.rg_words.proofs.state.State.zero.Goals as goal

pub invariant_of-result : goal.invariant_of-result
invariant_of-result c =
    let all : length (widths_of c.args.layout.now) ≤ c.loop-word.word = omega (arith, length-map c.args.layout.now (λ w. w.width)) in
    let widths : c.loop-word.widths.items ≡ widths_of c.args.layout.now = c.loop-word.invariant ∙ take_all _ _ all in
    let values : c.in_ok-values.values.items ≡ replicate (length c.args.layout.now) 0 = search rules in
    rw (widths, values) (IsState-zeros c.args.layout.now)

pub returns-clause-state : goal.returns-clause-state
returns-clause-state c =
    let values : c.in_ok-values.values.items ≡ replicate (length c.args.layout.now) 0 = search rules in
    rw values (IsState-zeros c.args.layout.now)
