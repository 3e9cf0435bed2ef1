use Rattle.std.proofs.Common.{◌∙◌, refl, arith}
use Rattle.rg_outline_meaning.specs.View.{outline, words, knowns}
use Rattle.rg_outline_meaning.proofs.ProgramRules.{parts_step, parts_all}
use Rattle.rg_outline_meaning.proofs.names.Reader.want_parts.Goals as goal

pub loop-written-preserved : goal.loop-written-preserved
loop-written-preserved c =
    let r = c.args.self.now in
    let s = c.loop-written.self in
    let h = c.loop-written.invariant in
    let own = c.in_ok-place.ensures in (
      (own.same.0 ∙ h.0.0, own.same.1 ∙ h.0.1),
      own.known ∙ h.1,
      parts_step (outline r) (words r) (outline s) (words s) (knowns r) (knowns s) c.deref-written-items.result.now c.loop-written.written-index _ _ c.args.parts.now c.loop-written.place c.in_ok-place.place h.0.0 h.0.1 h.1 refl c.loop-written-test.true h.2 own.parts,
    )

pub returns : goal.returns
returns c =
    let r = c.args.self.now in
    rw c.deref-written-items.ensures.value at (parts_all (outline r) (words r) (knowns r) c.deref-written-items.result.now c.loop-written.written-index c.args.parts.now c.loop-written.place c.loop-written-test.false (omega arith) c.loop-written.invariant.2)
