use Rattle.std.proofs.Common.{◌≡◌, ℕ, ◌+◌, true, refl, sym, ◌∙◌, subst, rules}
use Rattle.rg_machine.specs.Machine.{IsStepOf}
use Rattle.rg_floor.specs.declared.walk.Walk.{Walk}
use Rattle.rg_floor.proofs.Walking.{past_step}
use Rattle.rg_floor.proofs.walk.take_step.Goals as goal

pub returns-clause-goes : goal.returns-clause-goes
returns-clause-goes c = λ t limit moves.
    let v = c.args.walk.now in
    let w : Walk = record { config = c.step.new.self; records = v.records + 1; own = v.own + 1; moves = v.moves; passed = v.passed } in
    let same : c.same.result ≡ true = search (rules, c.if-not-same.false) in
    let step : IsStepOf v.config c.args.step.now.who w.config = subst (λ (i : ℕ). IsStepOf v.config i w.config) c.who-who.ensures c.in-Did.ensures in
    past_step limit moves v w c.args.step.now c.requires step (sym c.after.ensures ∙ c.same.ensures.0 same ∙ c.words.ensures.values) refl refl refl refl
