use Rattle.std.proofs.Common.{◌≡◌, ◌<◌, length, ◌≢◌}
use Rattle.std.specs.Prelude.{All}
use Rattle.std.specs.List.{HoldsAt}
use Rattle.rg_hint_lines.specs.declared.lines.Head.{Head}
use Rattle.rg_hint_lines.proofs.ZippedLines.{parts, heads_rise, none_found, one_found, match_option}
use Rattle.rg_hint_lines.proofs.lines.Lines.find.Goals as goal

pub find_head-requires : goal.find_head-requires
find_head-requires c =
    let a = c.self.inside in
    let p = parts a.given a.heads.items a.literals a.hints c.args.self.now c.self.invariant c.self.view_is in
    rw c.deref.ensures.value (heads_rise a.heads.items a.literals a.hints c.args.self.now p)

pub returns-clause-found : goal.returns-clause-found
returns-clause-found c =
    let a = c.self.inside in
    let p = parts a.given a.heads.items a.literals a.hints c.args.self.now c.self.invariant c.self.view_is in
    match_option c.find_head.result (All (λ (h : Head). h.id ≢ c.args.id) a.heads.items) _ (λ k. (k < length a.heads.items) × HoldsAt (λ (h : Head). h.id ≡ c.args.id) a.heads.items k) _
    (none_found a.heads.items a.literals a.hints c.args.self.now c.args.id p)
    (λ k. one_found a.heads.items a.literals a.hints c.args.self.now c.args.id k p)
    (rw c.deref.ensures.value at c.find_head.ensures)

pub returns-clause-section : goal.returns-clause-section
returns-clause-section c =
    let a = c.self.inside in
    let p = parts a.given a.heads.items a.literals a.hints c.args.self.now c.self.invariant c.self.view_is in
    p.section
