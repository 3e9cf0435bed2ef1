use Rattle.std.proofs.Common.{◌<◌, length, sym, arith}
use Rattle.rg_hints.proofs.ProofSteps.{taken_after, later_from, later_none}
use Rattle.rg_hints.proofs.proof.take_section.Goals as goal

pub returns-then-first-number-clause-after : goal.returns-then-first-number-clause-after
returns-then-first-number-clause-after c =
    let small : c.args.from < length c.args.sections.now = omega (arith, c.if-from-sections.false) in
    taken_after c.args.sections.now c.args.from _ c.args.number small c.requires c.if-first-number.true

pub returns-clause-found : goal.returns-clause-found
returns-clause-found c =
    let small : c.args.from < length c.args.sections.now = omega (arith, c.if-from-sections.false) in
    sym (later_none c.args.sections.now c.args.from _ c.args.number small c.requires c.if-first-number.false)

pub returns-clause-after : goal.returns-clause-after
returns-clause-after c =
    let small : c.args.from < length c.args.sections.now = omega (arith, c.if-from-sections.false) in
    later_from c.args.sections.now c.args.from _ c.args.number small c.requires c.if-first-number.false
