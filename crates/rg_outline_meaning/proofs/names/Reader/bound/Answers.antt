use Rattle.std.proofs.Common.{◌≡◌, ◌≢◌, sym, ◌∙◌, ap, map, subst, Some, slice_get, All, length, ◌≤◌}
use Rattle.rg_outline_meaning.specs.Names.{Bound, text_of}
use Rattle.rg_outline_meaning.specs.View.{bound, meaning, outline}
use Rattle.rg_outline_meaning.proofs.Placed.{all_next, all_of, placed, same_text, other_text}
use Rattle.rg_outline_meaning.proofs.names.Reader.bound.Goals as goal

pub returns-then-eq-clause-some : goal.returns-then-eq-clause-some
returns-then-eq-clause-some c =
    let o = outline c.args.self.now in
    let same = same_text _ _ _ _ c.text.ensures c.text-text.ensures c.if-eq.ensures in
    let there = placed (bound o) c.deref-bound-items.result.now c.loop-bound.bound-index c.bound-item.result c.bound-item.is c.loop-bound-test.true in
    (c.loop-bound.bound-index, rw c.deref-bound-items.ensures.value at (there ∙ ap (λ n. Some (record { name = n; meaning = meaning c.bound-item.result.meaning })) same))

pub loop-bound-preserved : goal.loop-bound-preserved
loop-bound-preserved c =
    let o = outline c.args.self.now in
    all_next (bound o) (λ b. b.name ≢ text_of o c.args.name) c.deref-bound-items.result.now c.loop-bound.bound-index c.bound-item.result c.bound-item.is c.loop-bound-test.true
    c.loop-bound.invariant (other_text _ _ _ _ c.text.ensures c.text-text.ensures c.if-eq.ensures)

pub returns-clause-none : goal.returns-clause-none
returns-clause-none c =
    let o = outline c.args.self.now in
    rw c.deref-bound-items.ensures.value at (all_of (bound o) (λ b. b.name ≢ text_of o c.args.name) c.deref-bound-items.result.now c.loop-bound.bound-index c.loop-bound-test.false c.loop-bound.invariant)
