use Rattle.std.proofs.Common.{refl}
use Rattle.rg_outline_meaning.specs.View.{outline, words, names}
use Rattle.rg_outline_meaning.proofs.StatementRules.{steps_next}
use Rattle.rg_outline_meaning.proofs.names.Reader.assignments.Goals as goal

pub loop-assignment-preserved : goal.loop-assignment-preserved
loop-assignment-preserved c =
    let r = c.args.self.now in
    steps_next (outline r) (words r) (names r c.args.names.now) c.piece-assignment-items.result.now c.loop-assignment.assignment-index _ _ c.loop-assignment.step.items c.in_ok-own.own.items c.append.new.self.items
    refl c.loop-assignment-test.true c.in_ok-append.ensures.items c.loop-assignment.invariant c.in_ok-own.ensures
