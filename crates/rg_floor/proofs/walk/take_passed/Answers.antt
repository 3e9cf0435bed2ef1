use Rattle.std.proofs.Common.{◌≡◌, ◌+◌, ◌<◌, length, map, ap, ◌∙◌, rules, IsTrue}
use Rattle.rg_tree.specs.View.{formula}
use Rattle.rg_tree.specs.Moves.{move}
use Rattle.rg_floor.specs.Inner.Walking.{place_of}
use Rattle.rg_floor.specs.declared.walk.Walk.{Walk}
use Rattle.rg_floor.proofs.EachMove.{change_at}
use Rattle.rg_floor.proofs.Walking.{drop_mapped, drop_get, pass_one}
use Rattle.rg_floor.proofs.walk.take_passed.Goals as goal

pub is_passed-requires-clause-moves : goal.is_passed-requires-clause-moves
is_passed-requires-clause-moves c =
    let less : c.loop-walk.walk.moves < length c.args.moves.now = search rules in
    change_at c.args.program.now.layout c.args.moves.now c.loop-walk.walk.moves c.index-moves-walk.result c.requires.moves c.index-moves-walk.is less

pub loop-walk-preserved : goal.loop-walk-preserved
loop-walk-preserved c =
    let inv = c.loop-walk.invariant in
    let w = c.loop-walk.walk in
    let x = c.is_passed.new.walk in
    let stays : x ≡ w = c.is_passed.ensures.same in
    let moves = c.args.moves.now in
    let passed = c.args.passed.now in
    let m = c.index-moves-walk.result in
    let w' : Walk = record { config = x.config; records = x.records; own = x.own; moves = x.moves + 1; passed = x.passed + 1 } in
    let in_moves : w.moves < length moves = search rules in
    let in_passed : w.passed < length passed = search rules in
    let test_holds : IsTrue c.in_ok-is_passed.field-0 = search rules in
    record {
      goes = pass_one (formula c.args.program.now.spec.rely) c.args.limit (map move moves) passed c.args.walk.now w (move m) _ w' inv.goes (c.in_ok-is_passed.ensures.reported test_holds)
          (drop_mapped move moves w.moves m c.index-moves-walk.is in_moves)
          (drop_get passed w.passed _ in_passed)
          (ap place_of stays)
          (ap (λ (y : Walk). y.moves + 1) stays)
          (ap (λ (y : Walk). y.passed + 1) stays);
      config = ap (λ (y : Walk). y.config) stays ∙ inv.config;
    }
