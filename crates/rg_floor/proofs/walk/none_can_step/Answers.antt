use Rattle.std.proofs.Common.{◌≡◌, ◌+◌, ◌≤◌, false, sym, ◌∙◌, subst, rules, arith}
use Rattle.std.proofs.lemmas.Bool.{false≢true}
use Rattle.rg_machine.specs.Machine.{Configuration, CanStep}
use Rattle.rg_floor.proofs.Walking.{one_more}
use Rattle.rg_floor.proofs.walk.none_can_step.Goals as goal

pub loop-i-preserved : goal.loop-i-preserved
loop-i-preserved c =
    let inv = c.loop-i.invariant in
    let reported : c.can_step.result ≡ false = search (rules, c.if-can_step.false) in
    record {
      none = one_more c.args.config.now c.loop-i.i inv.none (λ can.
          false≢true (sym reported ∙ c.can_step.ensures.can.1 (subst (λ (x : Configuration). CanStep x (c.loop-i.i + 1)) (sym inv.same) can)));
      same = c.can_step.ensures.same ∙ inv.same;
    }

pub returns-clause-reported : goal.returns-clause-reported
returns-clause-reported c = λ t i some most.
    let over : c.parts-i-end.result ≤ c.loop-i.i = search rules in
    c.loop-i.invariant.none i some (omega (arith, most, over, c.parts-i-end.ensures))
