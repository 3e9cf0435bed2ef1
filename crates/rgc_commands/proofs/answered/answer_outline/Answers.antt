use Rattle.std.proofs.Common.{ℕ, List, subst}
use Rattle.std.specs.Borrow.{Bor}
use Rattle.std.specs.Result.{OnOk}
use Rattle.rgc_commands.specs.Put.{ArePut}
use Rattle.rgc_commands.specs.Inner.Expansion.{expansion}
use Rattle.rgc_commands.specs.declared.outlines.Written.{Written}
use Rattle.rgc_commands.proofs.Answering.{on_ok_any, no_others}
use Rattle.rgc_commands.proofs.answered.answer_outline.Goals as goal

pub returns-in-EmitOutline-clause-answer : goal.returns-in-EmitOutline-clause-answer
returns-in-EmitOutline-clause-answer g c = rw c.in-EmitOutline.is (c.emit_outline.ensures.answer c.in-EmitOutline.outline)

pub returns-in-EmitOutline-clause-stopped : goal.returns-in-EmitOutline-clause-stopped
returns-in-EmitOutline-clause-stopped g c = rw c.in-EmitOutline.is (c.emit_outline.ensures.stopped c.in-EmitOutline.outline)

pub returns-in-EmitOutline-clause-put : goal.returns-in-EmitOutline-clause-put
returns-in-EmitOutline-clause-put g c = rw c.in-EmitOutline.is (on_ok_any c.emit_outline.result (Unit {0}) tt)

pub returns-in-AccessesOutline-clause-answer : goal.returns-in-AccessesOutline-clause-answer
returns-in-AccessesOutline-clause-answer g c = rw c.in-AccessesOutline.is (c.accesses_outline.ensures.answer c.in-AccessesOutline.outline)

pub returns-in-AccessesOutline-clause-stopped : goal.returns-in-AccessesOutline-clause-stopped
returns-in-AccessesOutline-clause-stopped g c = rw c.in-AccessesOutline.is (c.accesses_outline.ensures.stopped c.in-AccessesOutline.outline)

pub returns-in-AccessesOutline-clause-put : goal.returns-in-AccessesOutline-clause-put
returns-in-AccessesOutline-clause-put g c = rw c.in-AccessesOutline.is (on_ok_any c.accesses_outline.result (Unit {0}) tt)

pub returns-in-RunOutline-clause-answer : goal.returns-in-RunOutline-clause-answer
returns-in-RunOutline-clause-answer g c =
    let said = rw c.new-asked.ensures at c.run_outline.ensures.answer in
    rw c.in-RunOutline.is (said c.in-RunOutline.outline)

pub returns-in-Outline-clause-answer : goal.returns-in-Outline-clause-answer
returns-in-Outline-clause-answer g c =
    let said = rw c.new-written.ensures at c.expand.ensures.answer in
    rw c.in-Outline.is (said c.args.line.now.settings c.in-Outline.outline)

pub returns-in-Verify-clause-answer : goal.returns-in-Verify-clause-answer
returns-in-Verify-clause-answer g c =
    let said = rw c.new-asked-in-Verify.ensures at c.verify.ensures.answer in
    rw c.in-Verify.is said

pub returns-in-Challenge-clause-answer : goal.returns-in-Challenge-clause-answer
returns-in-Challenge-clause-answer g c = rw c.in-Challenge.is (c.challenge_outline.ensures.answer c.in-Challenge.outline)

pub returns-in-RunOutline-clause-stopped : goal.returns-in-RunOutline-clause-stopped
returns-in-RunOutline-clause-stopped g c =
    let said = rw c.new-asked.ensures at c.run_outline.ensures.stopped in
    rw c.in-RunOutline.is (said c.in-RunOutline.outline)

pub returns-in-Outline-clause-stopped : goal.returns-in-Outline-clause-stopped
returns-in-Outline-clause-stopped g c =
    let said = rw c.new-written.ensures at c.expand.ensures.stopped in
    rw c.in-Outline.is (said c.args.line.now.settings c.in-Outline.outline)

pub returns-in-Verify-clause-stopped : goal.returns-in-Verify-clause-stopped
returns-in-Verify-clause-stopped g c =
    let said = rw c.new-asked-in-Verify.ensures at c.verify.ensures.stopped in
    rw c.in-Verify.is said

pub returns-in-Challenge-clause-stopped : goal.returns-in-Challenge-clause-stopped
returns-in-Challenge-clause-stopped g c = rw c.in-Challenge.is (c.challenge_outline.ensures.stopped c.in-Challenge.outline)

pub returns-in-Outline-clause-put : goal.returns-in-Outline-clause-put
returns-in-Outline-clause-put g c =
    let said = subst (λ (w : Written). (o : Bor (List ℕ)) → OnOk c.expand.result (ArePut (expansion o c.in-Outline.steps w) c.args.files.now c.args.sides.now c.expand.new.sides)) c.new-written.ensures c.expand.ensures.put in
    rw c.in-Outline.is (said c.in-Outline.outline)

pub returns-in-Verify-clause-put : goal.returns-in-Verify-clause-put
returns-in-Verify-clause-put g c =
    let said = rw c.new-asked-in-Verify.ensures at c.verify.ensures.put in
    rw c.in-Verify.is said

pub returns-in-RunOutline-clause-put : goal.returns-in-RunOutline-clause-put
returns-in-RunOutline-clause-put g c = rw c.in-RunOutline.is (on_ok_any c.run_outline.result (Unit {0}) tt)

pub returns-in-Challenge-clause-put : goal.returns-in-Challenge-clause-put
returns-in-Challenge-clause-put g c = rw c.in-Challenge.is (on_ok_any c.challenge_outline.result (Unit {0}) tt)

pub returns-in_default-clause-stopped : goal.returns-in_default-clause-stopped
returns-in_default-clause-stopped g c = absurd (no_others c.args.line.now.command c.in_default.not-EmitOutline c.in_default.not-AccessesOutline c.in_default.not-RunOutline c.in_default.not-Outline c.in_default.not-Verify c.in_default.not-Challenge c.in_default.not-Complete c.requires.over)
