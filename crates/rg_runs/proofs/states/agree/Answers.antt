use Rattle.std.proofs.Common.{refl, arith, sym, ◌∙◌}
use Rattle.rg_runs.proofs.Words.{state_length, agree_from, agree_at, same_where}
use Rattle.rg_runs.proofs.states.agree.Goals as goal

pub get-requires : goal.get-requires
get-requires c = omega (arith, state_length c.args.layout.now c.args.first.now.values c.requires.first)

pub get-requires-then-is_fixed : goal.get-requires-then-is_fixed
get-requires-then-is_fixed c = omega (arith, state_length c.args.layout.now c.args.second.now.values c.requires.second)

pub returns-then-get : goal.returns-then-get
returns-then-get c =
    (λ h. absurd (cc h), λ h. let e = same_where _ _ _ (sym c.is_fixed.ensures ∙ c.if-is_fixed.true) (agree_at c.args.layout.now c.args.first.now.values c.args.second.now.values c.requires.first c.requires.second h c.loop-word.word (omega arith)) in absurd (c.if-get.true (c.get.ensures.exact ∙ (e ∙ sym c.get-then-is_fixed.ensures.exact))))

pub returns : goal.returns
returns c =
    (λ _. agree_from c.args.layout.now c.args.first.now.values c.args.second.now.values (λ i lt. c.loop-word.invariant i (omega arith)), λ _. refl)
