use Rattle.std.proofs.Common.{◌≡◌, ◌∙◌, ◌+◌, true, false, get_or, sym, ap, arith}
use Rattle.rg_erase.proofs.Loops.{place_first, place_erased, place_stays}
use Rattle.rg_erase.proofs.rename.new_place.Goals as goal
use Rattle.rg_erase.proofs.rename.new_place.Goals.{then-not-is_set, else-not-is_set}

pub loop-word-init : goal.loop-word-init
loop-word-init c = record { place = sym (place_first c.args.erased.now); within = omega arith }

pub loop-word-preserved : goal.loop-word-preserved
loop-word-preserved c =
    let inv = c.loop-word.invariant in
    elim c.if-not-is_set.branch [
      | then-not-is_set w ↦
          let stays : get_or c.args.erased.now c.loop-word.word false ≡ false = sym c.is_set.ensures ∙ w.if-not-is_set.true in
          record {
            place = w.place-is ∙ ap (λ n. n + 1) inv.place ∙ sym (place_stays c.args.erased.now c.loop-word.word stays);
            within = omega (arith, w.place-is, inv.within);
          }
      | else-not-is_set w ↦
          let gone : get_or c.args.erased.now c.loop-word.word false ≡ true = sym c.is_set.ensures ∙ w.if-not-is_set.false in
          record {
            place = w.place-is ∙ inv.place ∙ sym (place_erased c.args.erased.now c.loop-word.word gone);
            within = omega (arith, w.place-is, inv.within);
          }
    ]
