use Rattle.std.proofs.Common.{◌∙◌, ap, subst}
use Rattle.rg_outline_meaning.specs.Names.{piece_of}
use Rattle.rg_outline_meaning.specs.Programs.{KnownAfter}
use Rattle.rg_outline_meaning.specs.View.{outline, knowns}
use Rattle.rg_outline_meaning.proofs.ProgramRules.{heads_step, heads_all}
use Rattle.rg_outline_meaning.proofs.names.Reader.know_heads.Goals as goal

pub loop-head-preserved : goal.loop-head-preserved
loop-head-preserved c =
    let r = c.args.self.now in
    let s = c.loop-head.self in
    let h = c.loop-head.invariant in
    let same = c.in_ok-know_head.ensures.same in (
      (same.0 ∙ h.0.0, same.1 ∙ h.0.1),
      heads_step (outline r) (outline s) (knowns r) (knowns s) (knowns c.know_head.new.self) c.piece-heads.result.now c.loop-head.head-index _ _ h.0.0 c.loop-head-test.true h.1 c.in_ok-know_head.ensures.head c.if-not-branch.false,
    )

pub returns-clause-known : goal.returns-clause-known
returns-clause-known c =
    let r = c.args.self.now in
    let s = c.loop-head.self in
    subst (λ hs. KnownAfter (outline r) (knowns r) hs (knowns s)) (c.piece-heads.ensures ∙ ap (λ xs. piece_of xs c.args.list) c.as_slice.ensures.value)
    (heads_all (outline r) (knowns r) (knowns s) c.piece-heads.result.now c.loop-head.head-index c.loop-head-test.false c.loop-head.invariant.1)
