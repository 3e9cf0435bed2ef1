use Rattle.std.proofs.Common.{◌∙◌, ap, subst}
use Rattle.rg_outline_meaning.specs.Names.{piece_of}
use Rattle.rg_outline_meaning.specs.Programs.{PartKnows}
use Rattle.rg_outline_meaning.specs.View.{outline, words, knowns}
use Rattle.rg_outline_meaning.proofs.ProgramRules.{part_named, part_step, part_all}
use Rattle.rg_outline_meaning.proofs.names.Reader.know_part.Goals as goal

pub loop-head-preserved-then-branch : goal.loop-head-preserved-then-branch
loop-head-preserved-then-branch c =
    let r = c.args.self.now in
    let s = c.loop-head.self in
    let h = c.loop-head.invariant in
    let same = c.in_ok-know_head.ensures.same in (
      (same.0 ∙ h.0.0, same.1 ∙ h.0.1),
      part_named (outline r) (words r) (outline s) (knowns r) (knowns s) (knowns c.know_head.new.self) c.piece-heads.result.now c.loop-head.head-index _ _ c.loop-head.owned h.0.0 c.loop-head-test.true h.1 c.in_ok-know_head.ensures.head c.if-branch.true,
    )

pub loop-head-preserved : goal.loop-head-preserved
loop-head-preserved c =
    let r = c.args.self.now in
    let s = c.loop-head.self in
    let t = c.know_head.new.self in
    let h = c.loop-head.invariant in
    let same = c.in_ok-know_head.ensures.same in (
      (same.0 ∙ h.0.0, same.1 ∙ h.0.1),
      part_step (outline r) (words r) (outline s) (outline t) (words t) (knowns r) (knowns s) (knowns t) c.piece-heads.result.now c.loop-head.head-index _ _ c.loop-head.owned c.in_ok-owned.field-0 c.or-owned.result h.0.0 (same.0 ∙ h.0.0) (same.1 ∙ h.0.1) c.loop-head-test.true h.1 c.in_ok-know_head.ensures.head c.if-branch.false c.in_ok-owned.ensures c.or-owned.ensures,
    )

pub returns-clause-owned : goal.returns-clause-owned
returns-clause-owned c =
    let r = c.args.self.now in
    let s = c.loop-head.self in
    subst (λ hs. PartKnows (outline r) (words r) (knowns r) hs (knowns s) c.loop-head.owned) (c.piece-heads.ensures ∙ ap (λ xs. piece_of xs c.args.list) c.as_slice.ensures.value)
    (part_all (outline r) (words r) (knowns r) (knowns s) c.piece-heads.result.now c.loop-head.head-index c.loop-head.owned c.loop-head-test.false c.loop-head.invariant.1)
