use Rattle.std.proofs.Common.{◌∙◌, ap, subst}
use Rattle.rg_outline_meaning.specs.Names.{piece_of}
use Rattle.rg_outline_meaning.specs.Programs.{ClausesStandFor}
use Rattle.rg_outline_meaning.specs.View.{outline, words, knowns, clauses}
use Rattle.rg_outline_meaning.proofs.ProgramRules.{clauses_named, clauses_step, clauses_all}
use Rattle.rg_outline_meaning.proofs.names.Reader.clauses.Goals as goal

pub loop-head-preserved-then-branch : goal.loop-head-preserved-then-branch
loop-head-preserved-then-branch c =
    let r = c.args.self.now in
    let s = c.loop-head.self in
    let h = c.loop-head.invariant in
    let same = c.in_ok-know_head.ensures.same in (
      (same.0 ∙ h.0.0, same.1 ∙ h.0.1),
      clauses_named (outline r) (words r) (outline s) (knowns r) (knowns s) (knowns c.know_head.new.self) c.piece-heads.result.now c.loop-head.head-index _ _ (clauses c.loop-head.clauses) h.0.0 c.loop-head-test.true h.1 c.in_ok-know_head.ensures.head c.if-branch.true,
    )

pub loop-head-preserved : goal.loop-head-preserved
loop-head-preserved c =
    let r = c.args.self.now in
    let s = c.loop-head.self in
    let t = c.know_head.new.self in
    let h = c.loop-head.invariant in
    let same = c.in_ok-know_head.ensures.same in (
      (same.0 ∙ h.0.0, same.1 ∙ h.0.1),
      clauses_step (outline r) (words r) (outline s) (outline t) (words t) (knowns r) (knowns s) (knowns t) c.piece-heads.result.now c.loop-head.head-index _ _ (clauses c.loop-head.clauses) (clauses c.take_clause.new.clauses) h.0.0 (same.0 ∙ h.0.0) (same.1 ∙ h.0.1) c.loop-head-test.true h.1 c.in_ok-know_head.ensures.head c.if-branch.false c.in_ok-take_clause.ensures,
    )

pub returns-clause-clauses : goal.returns-clause-clauses
returns-clause-clauses c =
    let r = c.args.self.now in
    let s = c.loop-head.self in
    subst (λ hs. ClausesStandFor (outline r) (words r) (knowns r) hs (knowns s) (clauses c.loop-head.clauses)) (c.piece-heads.ensures ∙ ap (λ xs. piece_of xs r.written.now.following_words) c.as_slice.ensures.value)
    (clauses_all (outline r) (words r) (knowns r) (knowns s) c.piece-heads.result.now c.loop-head.head-index (clauses c.loop-head.clauses) c.loop-head-test.false c.loop-head.invariant.1)
