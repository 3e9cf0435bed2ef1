use Rattle.std.proofs.Common.{◌≡◌, ◌+◌, ◌<◌, true, length, map, sym, ap, ◌∙◌, subst, rules}
use Rattle.rg_tree.specs.Moves.{move, IsChange, given}
use Rattle.rg_tree.specs.Traces.{State}
use Rattle.rg_floor.specs.Moves.{with_state}
use Rattle.rg_floor.specs.declared.walk.Walk.{Walk}
use Rattle.rg_floor.proofs.EachMove.{change_at}
use Rattle.rg_floor.proofs.Walking.{drop_mapped, moved_is, past_move}
use Rattle.rg_floor.proofs.walk.take_move.Goals as goal

pub led_to-requires : goal.led_to-requires
led_to-requires c =
    let v = c.args.walk.now in
    let m = c.index-moves-walk.result in
    let less : v.moves < length c.args.moves.now = search (rules, c.if-walk-moves.false) in
    subst (λ (x : Walk). IsChange x.config.words m.values.items) (sym c.is_due.ensures.same)
    (change_at v.config.words c.args.moves.now v.moves m c.requires.moves c.index-moves-walk.is less)

pub returns-clause-goes : goal.returns-clause-goes
returns-clause-goes c = λ t.
    let v = c.args.walk.now in
    let d = c.is_due.new.walk in
    let stays : d ≡ v = c.is_due.ensures.same in
    let m = c.index-moves-walk.result in
    let r = c.args.step.now in
    let moves = c.args.moves.now in
    let w : Walk = record { config = c.change.new.self; records = d.records + 1; own = d.own; moves = d.moves + 1; passed = d.passed } in
    let less : v.moves < length moves = search (rules, c.if-walk-moves.false) in
    let in_time : c.is_due.result ≡ true = search (rules, c.if-not-is_due.false) in
    let same : c.same.result ≡ true = search (rules, c.if-not-same.false) in
    let done : c.change.result ≡ true = search (rules, c.if-not-change.false) in
    let wanted : c.in_ok-wanted.wanted.values ≡ given m.values.items v.config.state = c.in_ok-wanted.ensures.values ∙ ap (λ (x : Walk). given m.values.items x.config.state) stays in
    let after : r.after ≡ c.in_ok-wanted.wanted.values = sym c.after.ensures ∙ c.same.ensures.0 same in
    let to : c.change.new.self ≡ with_state d.config c.in_ok-wanted.wanted.values = moved_is d.config c.in_ok-wanted.wanted.values c.change.new.self (c.change.ensures.done done) in
    past_move c.args.limit (map move moves) v w r (move m)
    (drop_mapped move moves v.moves m c.index-moves-walk.is less)
    c.requires.by
    (c.is_due.ensures.reported in_time)
    (after ∙ wanted)
    (to ∙ ap (λ (x : Walk). with_state x.config c.in_ok-wanted.wanted.values) stays ∙ ap (λ (s : State). with_state v.config s) (sym after))
    (ap (λ (x : Walk). x.records + 1) stays)
    (ap (λ (x : Walk). x.own) stays)
    (ap (λ (x : Walk). x.moves + 1) stays)
    (ap (λ (x : Walk). x.passed) stays)
