use Rattle.std.proofs.Common.{◌≡◌, ◌<◌, ap, arith, length, subst}
use Rattle.std.proofs.lemmas.Grind.{common_steps}
use Rattle.std.specs.Prelude.{slice_index}
use Rattle.rg_words.specs.States.{Valuation, AreValues}
use Rattle.rg_words.proofs.Values.{AreValues-at}
use Rattle.rg_words.proofs.state.State.get.Goals as goal

pub returns-clause-bound : goal.returns-clause-bound
returns-clause-bound c =
    let Fits : Valuation → Type 0 = λ v. AreValues v.widths v.values in
    let values : c.self.inside.values.items ≡ c.args.self.now.values = ap (λ v. v.values) c.self.view_is in
    let inside : c.args.word < length c.self.inside.values.items = rw values c.requires in
    let value : c.index.result.now ≡ slice_index c.self.inside.values.items c.args.word = grind (arith, common_steps) in
    rw (value, values) (AreValues-at c.args.self.now.widths c.args.self.now.values c.args.word (subst Fits c.self.view_is c.self.invariant) c.requires)
