use Rattle.std.proofs.Common.{List, subst}
use Rattle.rg_words.specs.States.{AreValues}
use Rattle.rg_floor.proofs.Readiness.{fixed_agree, by_both}
use Rattle.rg_floor.proofs.stepping.keeps_fixed.Goals as goal

pub returns-clause-test : goal.returns-clause-test
returns-clause-test c =
    let f = fixed_agree c.args.program.now.layout c.args.before.now.values c.args.after.now.values in
    by_both _ _ (λ e. f.0 (c.agree_on_fixed.ensures.0 e)) (λ e. c.agree_on_fixed.ensures.1 (f.1 e))

pub returns-clause-pair : goal.returns-clause-pair
returns-clause-pair c = λ e. record {
  first = subst (λ (ws : List _). AreValues ws c.args.before.now.values) c.requires.before c.facts.ensures.state;
  second = subst (λ (ws : List _). AreValues ws c.args.after.now.values) c.requires.after c.facts-2.ensures.state;
  fixed = c.agree_on_fixed.ensures.0 e;
}
