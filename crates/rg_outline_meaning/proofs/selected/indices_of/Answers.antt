use Rattle.std.proofs.Common.{◌≡◌, sym, ◌∙◌, ap, refl, Bool, true, false, [], ◌∷◌, ◌++◌, Option, Some, None, rules, SFits}
use Rattle.std.specs.Prelude.{option_map, is_some}
use Rattle.std.specs.Int.{w128}
use Rattle.std.proofs.lemmas.Int.{to_z-of_z}
use Rattle.rg_tree.specs.View.{expression}
use Rattle.rg_outline_meaning.specs.Meanings.{whole, value}
use Rattle.rg_outline_meaning.specs.View.{meaning}
use Rattle.rg_outline_meaning.proofs.Indices.{longer_by_one, whole_next, value_next}
use Rattle.rg_outline_meaning.proofs.selected.indices_of.Goals as goal
use Rattle.rg_outline_meaning.proofs.selected.indices_of.Goals.{in-Whole+in_ok-push-in-Whole, in-Value+in-Some+in_ok-copy_expr-in-Value+in_ok-push-in-Value}

none_of : {X : Type 0} (o : Option X) → is_some o ≡ false → o ≡ None
none_of None e = refl
none_of (Some x) e = cc

pub loop-place-preserved : goal.loop-place-preserved
loop-place-preserved c =
    let ms = c.args.meanings.now in
    let k = c.loop-place.place in
    let m = c.index-meanings-place.result in
    let zs = c.loop-place.indices.items in
    let new = c.match-meaning.indices.items in
    elim c.match-meaning.branch [
      | in-Whole+in_ok-push-in-Whole w ↦
          (let z = w.in-Whole.number in
          let fits : SFits w128 z = search rules in
          let pushed : new ≡ zs ++ z ∷ [] = ap (λ v. v.items) w.indices-is ∙ (rw (to_z-of_z w128 z fits) at w.in_ok-push-in-Whole.ensures.items) in
          let is : meaning m ≡ whole z = ap meaning w.in-Whole.is in (
            longer_by_one meaning ms k m c.index-meanings-place.is c.loop-place-test.true zs new z pushed c.loop-place.invariant.0,
            rw w.choosing-is (whole_next meaning ms k m c.index-meanings-place.is c.loop-place-test.true zs new z pushed c.loop-place.invariant.0 (option_map (λ p. (p.0, expression p.1)) c.loop-place.choosing) is c.loop-place.invariant.1),
          ))
      | in-Value+in-Some+in_ok-copy_expr-in-Value+in_ok-push-in-Value w ↦
          (let z = w.in-Some.range.now.0 in
          let fits : SFits w128 z = search rules in
          let pushed : new ≡ zs ++ z ∷ [] = ap (λ v. v.items) w.indices-is ∙ (rw (to_z-of_z w128 z fits) at w.in_ok-push-in-Value.ensures.items) in
          let is : meaning m ≡ value (expression w.in_ok-copy_expr-in-Value.field-0) = ap meaning w.in-Value.is ∙ ap (λ e. value e) (sym w.in_ok-copy_expr-in-Value.ensures) in
          let none : c.loop-place.choosing ≡ None = none_of c.loop-place.choosing w.if-is_none.ensures in (
            longer_by_one meaning ms k m c.index-meanings-place.is c.loop-place-test.true zs new z pushed c.loop-place.invariant.0,
            rw w.choosing-is (value_next meaning ms k m c.index-meanings-place.is c.loop-place-test.true zs new z pushed c.loop-place.invariant.0 (expression w.in_ok-copy_expr-in-Value.field-0) is (rw none at c.loop-place.invariant.1)),
          ))
    ]
