use Rattle.std.proofs.Common.{◌≡◌, refl, ◌∙◌, [], ◌∷◌, subst₂, pos, slice_index_or, SFits, arith, rules}
use Rattle.std.proofs.lemmas.List.{length-map}
use Rattle.std.specs.Int.{w128}
use Rattle.std.proofs.lemmas.Int.{to_z-of_z}
use Rattle.rg_outline_meaning.specs.Reading.{IsPartOf}
use Rattle.rg_outline_meaning.specs.View.{outline, words, known, knowns}
use Rattle.rg_outline_meaning.proofs.ProgramRules.{members_next, truncated, cut_back, index_known}
use Rattle.rg_outline_meaning.proofs.names.Reader.after_members.Goals as goal

pub loop-number-preserved : goal.loop-number-preserved
loop-number-preserved c =
    let r = c.args.self.now in
    let s = c.loop-number.self in
    let u = c.know.new.self in
    let v = c.after_part.new.self in
    let h = c.loop-number.invariant in
    let zs = c.args.numbers.now in
    let k = c.loop-number.number-index in
    let z = slice_index_or zs k (pos 0) in
    let fits : SFits w128 z = search rules in
    let back = to_z-of_z w128 z fits in
    let one = c.in_ok-know.ensures in
    let own = c.in_ok-place.ensures in
    let to_one = one.same.0 ∙ h.0.0 in
    let words_to_one = one.same.1 ∙ h.0.1 in
    let inner = index_known (outline r) (outline s) (knowns r) (knowns s) (knowns u) c.args.index z (rw back at one.known) h.0.0 h.1 in
    let part : IsPartOf (outline u) (words u) (knowns u) c.args.written.now (z ∷ []) c.args.parts.now c.loop-number.place c.in_ok-place.place = rw back at own.part in (
      (own.same.0 ∙ to_one, own.same.1 ∙ words_to_one),
      truncated v c.len-count.result c.truncate.new.self.items (knowns r) c.truncate.ensures.items (cut_back c.len-count.result (knowns v) (knowns r) _ (own.known ∙ inner) (omega (arith, r.known.ok.0, length-map r.known.items (known (outline r))))),
      members_next (outline r) (words r) (knowns r) (knowns u) c.args.written.now c.args.index zs k (pos 0) z c.args.parts.now c.args.first c.loop-number.place c.in_ok-place.place refl c.loop-number-test.true h.2 inner
          (subst₂ (λ o ws. IsPartOf o ws (knowns u) c.args.written.now (z ∷ []) c.args.parts.now c.loop-number.place c.in_ok-place.place) to_one words_to_one part),
    )
