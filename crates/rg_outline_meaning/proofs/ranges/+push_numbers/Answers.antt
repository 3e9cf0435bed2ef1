use Rattle.std.proofs.Common.{◌-◌, ◌≡◌, suc, pos, ◌+ℤ◌, [], ◌∷◌, ◌++◌, ap, ◌∙◌, arith, rules, SFits}
use Rattle.std.specs.Int.{w128}
use Rattle.std.proofs.lemmas.Int.{ints, to_z-of_z}
use Rattle.std.proofs.lemmas.Result.{IfOk-weaker}
use Rattle.rg_outline_meaning.specs.Members.{numbers_from}
use Rattle.rg_outline_meaning.proofs.Families.{numbers_more}
use Rattle.rg_outline_meaning.proofs.ranges.+push_numbers.Goals as goal

pub returns-in-Some : goal.returns-in-Some
returns-in-Some t c =
    let by_one : c.in-Some.next ≡ c.args.first +ℤ pos 1 = grind (arith, ints, to_z-of_z) in
    let fewer : suc (c.args.count - 1) ≡ c.args.count = omega arith in
    let fits : SFits w128 c.in-Some.next = search rules in
    let pushed : c.push.new.self.items ≡ c.args.numbers.now.items ++ c.args.first ∷ [] = c.in_ok-push.ensures.items ∙ ap (λ z. c.args.numbers.now.items ++ z ∷ []) (to_z-of_z w128 c.args.first c.ranges.first) in
    IfOk-weaker c.push_numbers.result _ _
    (λ _ is. numbers_more c.args.numbers.now.items c.push.new.self.items c.push_numbers.new.numbers.items c.args.first c.in-Some.next (c.args.count - 1) c.args.count pushed by_one fewer
    (is ∙ ap (λ z. c.push.new.self.items ++ numbers_from z (c.args.count - 1)) (to_z-of_z w128 c.in-Some.next fits))) c.push_numbers.ensures
