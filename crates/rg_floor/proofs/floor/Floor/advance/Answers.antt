use Rattle.std.proofs.Common.{ap, ◌∙◌}
use Rattle.rg_floor.specs.Turns.{case_of}
use Rattle.rg_floor.proofs.OneMore.{kept_turn, goes_turn, steps_can}
use Rattle.rg_floor.proofs.floor.Floor.advance.Goals as goal

pub invariant_of-self-2 : goal.invariant_of-self-2
invariant_of-self-2 g c =
    let old = c.self.inside in
    let case = ap (case_of g.L.Round.code g.L.Round.limit c.args.self.now) c.part-part.ensures.part ∙ c.requires.case in
    let can = steps_can _ _ _ _ _ _ _ _ _ _ _ _ _ c.self.invariant old.stopped old.more c.args.self.now c.self.view_is c.part-part.result case in
    kept_turn _ _ _ _ _ _ _ _ _ _ _ _ _ c.self.invariant _ c.requires.program c.part-part.result _ c.part-part.ensures.named.0 c.part-part.ensures.named.1 can.1 c.count.ensures.book _ _ _ _ c.in_ok-record.ensures

pub returns-clause-goes : goal.returns-clause-goes
returns-clause-goes g c =
    let old = c.self.inside in
    goes_turn _ _ _ _ _ _ _ _ _ _ _ _ _ c.self.invariant _ c.requires.program old.stopped old.more c.args.self.now c.self.view_is c.part-part.result _ _ _ c.part-part.ensures.part (ap (λ s. s.steps) c.count.ensures.seat) _ _ _ _ c.in_ok-record.ensures
