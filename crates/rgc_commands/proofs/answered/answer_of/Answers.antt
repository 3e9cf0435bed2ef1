use Rattle.std.proofs.Common.{◌≡◌, ◌∙◌, [], refl, sym, inl}
use Rattle.rgc_commands.proofs.Answering.{on_ok_any, others, over_notes}
use Rattle.rgc_commands.proofs.answered.answer_of.Goals as goal

pub answer_outline-requires-clause-over : goal.answer_outline-requires-clause-over
answer_outline-requires-clause-over g c = λ _ _. others c.args.line.now.command c.in_default.not-Number c.in_default.not-Check c.in_default.not-Conditions c.in_default.not-Prove c.in_default.not-Valid c.in_default.not-Clauses c.in_default.not-Find c.in_default.not-Explain c.in_default.not-Emit c.in_default.not-Accesses c.in_default.not-Run

pub returns-in_default-clause-notes : goal.returns-in_default-clause-notes
returns-in_default-clause-notes g c = on_ok_any c.answer_outline.result _ (over_notes c.args.line.now.command _ (others c.args.line.now.command c.in_default.not-Number c.in_default.not-Check c.in_default.not-Conditions c.in_default.not-Prove c.in_default.not-Valid c.in_default.not-Clauses c.in_default.not-Find c.in_default.not-Explain c.in_default.not-Emit c.in_default.not-Accesses c.in_default.not-Run))

pub returns-in-Number-clause-answer : goal.returns-in-Number-clause-answer
returns-in-Number-clause-answer g c = rw c.in-Number.is (c.number.ensures.answer c.args.line.now.settings c.in-Number.text)

pub returns-in-Number-clause-stopped : goal.returns-in-Number-clause-stopped
returns-in-Number-clause-stopped g c = rw c.in-Number.is (c.number.ensures.stopped c.args.line.now.settings c.in-Number.text)

pub returns-in-Number-clause-put : goal.returns-in-Number-clause-put
returns-in-Number-clause-put g c = rw c.in-Number.is (on_ok_any c.number.result (Unit {0}) tt)

pub returns-in-Number-clause-notes : goal.returns-in-Number-clause-notes
returns-in-Number-clause-notes g c = rw c.in-Number.is (on_ok_any c.number.result (c.args.notes.now.items ≡ []) c.requires)

pub returns-in-Check-clause-answer : goal.returns-in-Check-clause-answer
returns-in-Check-clause-answer g c = rw c.in-Check.is (c.check.ensures.answer c.args.line.now.settings c.in-Check.text c.in-Check.derivation c.in-Check.proofs)

pub returns-in-Check-clause-stopped : goal.returns-in-Check-clause-stopped
returns-in-Check-clause-stopped g c = rw c.in-Check.is (c.check.ensures.stopped c.args.line.now.settings c.in-Check.text c.in-Check.derivation c.in-Check.proofs)

pub returns-in-Check-clause-put : goal.returns-in-Check-clause-put
returns-in-Check-clause-put g c = rw c.in-Check.is (on_ok_any c.check.result (Unit {0}) tt)

pub returns-in-Check-clause-notes : goal.returns-in-Check-clause-notes
returns-in-Check-clause-notes g c = rw c.in-Check.is (on_ok_any c.check.result (c.args.notes.now.items ≡ []) c.requires)

pub returns-in-Conditions-clause-answer : goal.returns-in-Conditions-clause-answer
returns-in-Conditions-clause-answer g c = rw c.in-Conditions.is (c.conditions.ensures.answer c.args.line.now.settings c.in-Conditions.text c.in-Conditions.derivation refl)

pub returns-in-Conditions-clause-stopped : goal.returns-in-Conditions-clause-stopped
returns-in-Conditions-clause-stopped g c = rw c.in-Conditions.is (c.conditions.ensures.stopped c.args.line.now.settings c.in-Conditions.text c.in-Conditions.derivation refl)

pub returns-in-Conditions-clause-put : goal.returns-in-Conditions-clause-put
returns-in-Conditions-clause-put g c = rw c.in-Conditions.is (on_ok_any c.conditions.result (Unit {0}) tt)

pub returns-in-Conditions-clause-notes : goal.returns-in-Conditions-clause-notes
returns-in-Conditions-clause-notes g c = rw c.in-Conditions.is (on_ok_any c.conditions.result (c.args.notes.now.items ≡ []) c.requires)

pub returns-in-Prove-clause-answer : goal.returns-in-Prove-clause-answer
returns-in-Prove-clause-answer g c = rw c.in-Prove.is (c.prove.ensures.answer c.args.line.now.settings c.in-Prove.text c.in-Prove.derivation)

pub returns-in-Prove-clause-stopped : goal.returns-in-Prove-clause-stopped
returns-in-Prove-clause-stopped g c = rw c.in-Prove.is (c.prove.ensures.stopped c.args.line.now.settings c.in-Prove.text c.in-Prove.derivation)

pub returns-in-Prove-clause-put : goal.returns-in-Prove-clause-put
returns-in-Prove-clause-put g c = rw c.in-Prove.is (on_ok_any c.prove.result (Unit {0}) tt)

pub returns-in-Prove-clause-notes : goal.returns-in-Prove-clause-notes
returns-in-Prove-clause-notes g c = rw c.in-Prove.is (on_ok_any c.prove.result (c.args.notes.now.items ≡ []) c.requires)

pub returns-in-Valid-clause-answer : goal.returns-in-Valid-clause-answer
returns-in-Valid-clause-answer g c = rw c.in-Valid.is (c.valid.ensures.answer c.args.line.now.settings c.in-Valid.text c.in-Valid.proofs)

pub returns-in-Valid-clause-stopped : goal.returns-in-Valid-clause-stopped
returns-in-Valid-clause-stopped g c = rw c.in-Valid.is (c.valid.ensures.stopped c.args.line.now.settings c.in-Valid.text c.in-Valid.proofs)

pub returns-in-Valid-clause-put : goal.returns-in-Valid-clause-put
returns-in-Valid-clause-put g c = rw c.in-Valid.is (on_ok_any c.valid.result (Unit {0}) tt)

pub returns-in-Valid-clause-notes : goal.returns-in-Valid-clause-notes
returns-in-Valid-clause-notes g c = rw c.in-Valid.is (on_ok_any c.valid.result (c.args.notes.now.items ≡ []) c.requires)

pub returns-in-Clauses-clause-answer : goal.returns-in-Clauses-clause-answer
returns-in-Clauses-clause-answer g c = rw c.in-Clauses.is (c.clauses_or_script.ensures.answer c.args.line.now.settings c.in-Clauses.text refl)

pub returns-in-Clauses-clause-stopped : goal.returns-in-Clauses-clause-stopped
returns-in-Clauses-clause-stopped g c = rw c.in-Clauses.is (c.clauses_or_script.ensures.stopped c.args.line.now.settings c.in-Clauses.text)

pub returns-in-Clauses-clause-put : goal.returns-in-Clauses-clause-put
returns-in-Clauses-clause-put g c = rw c.in-Clauses.is (on_ok_any c.clauses_or_script.result (Unit {0}) tt)

pub returns-in-Clauses-clause-notes : goal.returns-in-Clauses-clause-notes
returns-in-Clauses-clause-notes g c = rw c.in-Clauses.is (on_ok_any c.clauses_or_script.result (c.args.notes.now.items ≡ []) c.requires)

pub returns-in-Find-clause-answer : goal.returns-in-Find-clause-answer
returns-in-Find-clause-answer g c = rw c.in-Find.is (c.find_of.ensures.answer c.args.line.now.settings c.in-Find.text)

pub returns-in-Find-clause-stopped : goal.returns-in-Find-clause-stopped
returns-in-Find-clause-stopped g c = rw c.in-Find.is (c.find_of.ensures.stopped c.args.line.now.settings c.in-Find.text)

pub returns-in-Find-clause-put : goal.returns-in-Find-clause-put
returns-in-Find-clause-put g c = rw c.in-Find.is (on_ok_any c.find_of.result (Unit {0}) tt)

pub returns-in-Find-clause-notes : goal.returns-in-Find-clause-notes
returns-in-Find-clause-notes g c = rw c.in-Find.is (on_ok_any c.find_of.result (c.args.notes.now.items ≡ []) c.requires)

pub returns-in-Explain-clause-answer : goal.returns-in-Explain-clause-answer
returns-in-Explain-clause-answer g c = rw c.in-Explain.is (c.explain.ensures.answer c.args.line.now.settings)

pub returns-in-Explain-clause-stopped : goal.returns-in-Explain-clause-stopped
returns-in-Explain-clause-stopped g c = rw c.in-Explain.is (c.explain.ensures.stopped c.args.line.now.settings)

pub returns-in-Explain-clause-put : goal.returns-in-Explain-clause-put
returns-in-Explain-clause-put g c = rw c.in-Explain.is (on_ok_any c.explain.result (Unit {0}) tt)

pub returns-in-Explain-clause-notes : goal.returns-in-Explain-clause-notes
returns-in-Explain-clause-notes g c = rw c.in-Explain.is (on_ok_any c.explain.result (c.args.notes.now.items ≡ []) c.requires)

pub returns-in-Emit-clause-answer : goal.returns-in-Emit-clause-answer
returns-in-Emit-clause-answer g c = rw c.in-Emit.is (c.emit.ensures.answer c.in-Emit.text c.in-Emit.derivation c.in-Emit.proofs)

pub returns-in-Emit-clause-stopped : goal.returns-in-Emit-clause-stopped
returns-in-Emit-clause-stopped g c = rw c.in-Emit.is (c.emit.ensures.stopped c.in-Emit.text c.in-Emit.derivation c.in-Emit.proofs)

pub returns-in-Emit-clause-put : goal.returns-in-Emit-clause-put
returns-in-Emit-clause-put g c = rw c.in-Emit.is (on_ok_any c.emit.result (Unit {0}) tt)

pub returns-in-Emit-clause-notes : goal.returns-in-Emit-clause-notes
returns-in-Emit-clause-notes g c = rw c.in-Emit.is (on_ok_any c.emit.result (Unit {0}) tt)

pub returns-in-Accesses-clause-answer : goal.returns-in-Accesses-clause-answer
returns-in-Accesses-clause-answer g c = rw c.in-Accesses.is (c.accesses.ensures.answer c.in-Accesses.text c.in-Accesses.derivation c.in-Accesses.proofs)

pub returns-in-Accesses-clause-stopped : goal.returns-in-Accesses-clause-stopped
returns-in-Accesses-clause-stopped g c = rw c.in-Accesses.is (c.accesses.ensures.stopped c.in-Accesses.text c.in-Accesses.derivation c.in-Accesses.proofs)

pub returns-in-Accesses-clause-put : goal.returns-in-Accesses-clause-put
returns-in-Accesses-clause-put g c = rw c.in-Accesses.is (on_ok_any c.accesses.result (Unit {0}) tt)

pub returns-in-Accesses-clause-notes : goal.returns-in-Accesses-clause-notes
returns-in-Accesses-clause-notes g c = rw c.in-Accesses.is (on_ok_any c.accesses.result (Unit {0}) tt)

pub returns-in-Run-clause-answer : goal.returns-in-Run-clause-answer
returns-in-Run-clause-answer g c =
    let said = rw c.new-asked.ensures at c.run.ensures.answer in
    rw c.in-Run.is (said c.in-Run.text c.in-Run.derivation c.in-Run.proofs)

pub returns-in-Run-clause-stopped : goal.returns-in-Run-clause-stopped
returns-in-Run-clause-stopped g c =
    let said = rw c.new-asked.ensures at c.run.ensures.stopped in
    rw c.in-Run.is (said c.in-Run.text c.in-Run.derivation c.in-Run.proofs)

pub returns-in-Run-clause-put : goal.returns-in-Run-clause-put
returns-in-Run-clause-put g c = rw c.in-Run.is (on_ok_any c.run.result (Unit {0}) tt)

pub returns-in-Run-clause-notes : goal.returns-in-Run-clause-notes
returns-in-Run-clause-notes g c = rw c.in-Run.is (on_ok_any c.run.result (Unit {0}) tt)
