use Rattle.std.proofs.Common.{◌≡◌, ◌==◌, ◌≤◌, length, true, false, ap, sym, ◌∙◌, arith, rules}
use Rattle.rg_code.specs.Code.{is_end, all_at_end}
use Rattle.rg_floor.specs.Ready.{block_at, can_go, any_can_go}
use Rattle.rg_floor.specs.declared.turn.Case.TheVariants.{Steps}
use Rattle.rg_floor.proofs.Readiness.{some_can}
use Rattle.rg_floor.proofs.OneMore.{case_at}
use Rattle.rg_floor.proofs.floor.Floor.case.Goals as goal

pub returns-then-can_go-clause-case : goal.returns-then-can_go-clause-case
returns-then-can_go-clause-case g c =
    let old = c.self.inside in
    let inv = c.self.invariant in
    let x = old.config in
    let who = c.args.part in
    let stopped : old.stopped ≡ false = c.if-self.false in
    let all : all_at_end x.codes x.places ≡ false = sym c.has_ended.ensures ∙ c.if-has_ended.false in
    let left : (old.own == old.limit) ≡ false = search rules in
    let there : is_end (block_at x.codes x.places who) ≡ false = sym c.stands_at_end.ensures ∙ c.if-stands_at_end.false in
    let can : can_go (block_at x.codes x.places who) x.state ≡ true = sym c.can_go.ensures.can ∙ c.if-can_go.true in
    let known : who ≤ length x.codes = omega (arith, c.requires.1, ap length inv.codes_are) in
    let any : any_can_go x.codes x.places x.state ≡ true = some_can x.codes x.places x.state who c.requires.0 known (inv.sized ∙ sym (ap length inv.codes_are)) can in
    case_at _ _ _ _ _ _ _ _ _ _ _ _ _ inv old.stopped old.more c.args.self.now c.self.view_is who Steps (rw (stopped, all, left, there, any, can))
