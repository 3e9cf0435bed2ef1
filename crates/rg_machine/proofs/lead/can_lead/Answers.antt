use Rattle.std.proofs.Common.{◌∙◌, ap, refl, Some}
use Rattle.rg_machine.proofs.Steps.{do_can, await_can, test_can}
use Rattle.rg_machine.proofs.lead.can_lead.Goals as goal

pub returns-in-Do-clause-can : goal.returns-in-Do-clause-can
returns-in-Do-clause-can c =
    let legal = rw c.in-Do.is at c.requires.legal.1 in
    let st = rw c.requires.state at c.facts.ensures.state in
    rw c.in-Do.is ((λ y. do_can c.args.layout.now c.requires.legal.0 c.in-Do.field-0 _ _ c.args.state.now.values legal st), (λ x. refl))

pub returns-in-Test-clause-can : goal.returns-in-Test-clause-can
returns-in-Test-clause-can c =
    let legal = rw c.in-Test.is at c.requires.legal.1 in
    let st = rw c.requires.state at c.facts.ensures.state in
    rw c.in-Test.is ((λ y. test_can c.args.layout.now c.requires.legal.0 c.in-Test.field-0 _ _ _ c.args.state.now.values legal st), (λ x. refl))

pub returns-in-Await-clause-can : goal.returns-in-Await-clause-can
returns-in-Await-clause-can c =
    let legal = rw c.in-Await.is at c.requires.legal.1 in
    let st = rw c.requires.state at c.facts.ensures.state in
    let reported = rw c.deref.ensures.value at c.is_reported.ensures.reported in
    rw c.in-Await.is ((λ y. await_can c.args.layout.now c.requires.legal.0 c.in-Await.field-0 _ _ _ c.args.state.now.values legal st (reported ∙ ap (λ v. Some v) y)), (λ x. let h = x.2.0 in cc (reported, h)))
