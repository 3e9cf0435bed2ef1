use Rattle.std.proofs.Common.{◌≡◌, ◌≢◌, ◌∙◌, ap, map, subst, Some, All, slice_get}
use Rattle.rg_outline_meaning.specs.Names.{text_of}
use Rattle.rg_outline_meaning.specs.View.{known, sense, outline}
use Rattle.rg_outline_meaning.proofs.Placed.{all_next, all_of, placed, same_text, other_text}
use Rattle.rg_outline_meaning.proofs.names.Reader.find.Goals as goal

pub returns-then-eq-clause-some : goal.returns-then-eq-clause-some
returns-then-eq-clause-some c =
    let o = outline c.args.self.now in
    let k = c.index-all-place.result in
    let same = same_text _ _ _ _ c.text.ensures c.text-text.ensures c.if-eq.ensures in
    let there = placed (known o) _ c.loop-place.place k c.index-all-place.is c.loop-place-test.true in (
      c.loop-place.place,
      subst (λ ks. slice_get (map (known o) ks) c.loop-place.place ≡ Some (record { name = text_of o c.args.name; since = k.since; sense = sense o k.sense })) c.as_slice-all.ensures.value
          (there ∙ ap (λ n. Some (record { name = n; since = k.since; sense = sense o k.sense })) same),
    )

pub loop-place-preserved : goal.loop-place-preserved
loop-place-preserved c =
    let o = outline c.args.self.now in
    all_next (known o) (λ k. k.name ≢ text_of o c.args.name) _ c.loop-place.place c.index-all-place.result c.index-all-place.is c.loop-place-test.true
    c.loop-place.invariant (other_text _ _ _ _ c.text.ensures c.text-text.ensures c.if-eq.ensures)

pub returns-clause-none : goal.returns-clause-none
returns-clause-none c =
    let o = outline c.args.self.now in
    subst (λ ks. All (λ k. k.name ≢ text_of o c.args.name) (map (known o) ks)) c.as_slice-all.ensures.value
    (all_of (known o) (λ k. k.name ≢ text_of o c.args.name) _ c.loop-place.place c.loop-place-test.false c.loop-place.invariant)
