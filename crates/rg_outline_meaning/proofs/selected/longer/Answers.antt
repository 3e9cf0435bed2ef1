use Rattle.std.proofs.Common.{◌≡◌, [], ◌∷◌, ◌++◌, map, rules, SFits}
use Rattle.std.specs.Int.{w128}
use Rattle.std.proofs.lemmas.Int.{to_z-of_z}
use Rattle.rg_outline_meaning.specs.Members.{numbers}
use Rattle.rg_outline_meaning.proofs.Families.{longer_next}
use Rattle.rg_outline_meaning.proofs.selected.longer.Goals as goal

pub loop-indices-preserved : goal.loop-indices-preserved
loop-indices-preserved c =
    let least : SFits w128 c.args.range.0 = search rules in
    let most : SFits w128 c.args.range.1 = search rules in
    let one : map (λ is. is.items) c.in_ok-own.own.items ≡ map (λ z. c.indices-item.result.items ++ z ∷ []) (numbers c.args.range.0 c.args.range.1) =
    rw (c.deref.ensures.value, c.deref-in-loop-indices.ensures.value, c.in_ok-numbers.ensures, to_z-of_z w128 c.args.range.0 least, to_z-of_z w128 c.args.range.1 most) at c.in_ok-own.ensures in
    longer_next (λ is. is.items) c.args.range c.args.all.now c.loop-indices.indices-index c.indices-item.result c.loop-indices.longer.items c.in_ok-own.own.items c.append.new.self.items
    c.indices-item.is c.loop-indices-test.true c.loop-indices.invariant one c.in_ok-append.ensures.items
