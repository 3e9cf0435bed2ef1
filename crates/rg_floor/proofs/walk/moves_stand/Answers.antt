use Rattle.std.proofs.Common.{◌≡◌, ◌+◌, ◌≤◌, List, [], true, length, drop, map, sym, ap, ◌∙◌, subst, rules, arith, IsTrue}
use Rattle.std.proofs.lemmas.List.{length-map}
use Rattle.std.proofs.Math.ListN.{drop_of_length-le}
use Rattle.rg_words.specs.Layout.{Word, widths_of}
use Rattle.rg_tree.specs.View.{formula}
use Rattle.rg_tree.specs.Moves.{move, AreMoves}
use Rattle.rg_tree.specs.Traces.{State}
use Rattle.rg_code.specs.Code.{zeros}
use Rattle.rg_code.specs.CodeTrees.{code_blocks}
use Rattle.rg_machine.specs.Machine.{Configuration}
use Rattle.rg_monitor.specs.Entry.{Entry}
use Rattle.rg_floor.specs.Inner.Walking.{RestStands}
use Rattle.rg_floor.specs.declared.walk.Walk.{Walk}
use Rattle.rg_floor.proofs.Walking.{begins, drop_at, past_both, all_stand}
use Rattle.rg_floor.proofs.walk.moves_stand.Goals as goal

pub new-requires : goal.new-requires
new-requires c =
    let reported : c.same.result ≡ true = search (rules, c.if-not-same.false) in
    ap (λ x. x.widths) c.in_ok-start.ensures ∙ c.requires.start ∙ ap widths_of (sym (c.same.ensures.0 reported))

pub loop-step-init : goal.loop-step-init
loop-step-init c =
    let reported : c.same.result ≡ true = search (rules, c.if-not-same.false) in
    let words : c.args.origin.now.code.now.layout ≡ c.args.origin.now.program.now.layout = c.same.ensures.0 reported in
    let values = ap (λ x. x.values) c.in_ok-start.ensures in
    let config = c.in_ok-new.ensures ∙ ap (λ (s : State). let x : Configuration = record { words = c.args.origin.now.code.now.layout; codes = code_blocks c.args.origin.now.code.now; state = s; places = zeros (code_blocks c.args.origin.now.code.now) } in x) values in
    let whole = c.begun-walk.ensures ∙ ap (λ (x : Configuration). let w : Walk = record { config = x; records = 0; own = 0; moves = 0; passed = 0 } in w) config in
    record {
      words = ap (λ (w : Walk). w.config.words) whole ∙ words;
      rest = begins (formula c.args.origin.now.program.now.spec.rely) c.args.origin.now.limit (map move c.args.moves.now) c.args.passed.now c.begun-walk.result c.args.origin.now.program.now.layout c.args.origin.now.code.now.layout (code_blocks c.args.origin.now.code.now) c.args.origin.now.start.now.values c.args.steps.now whole words;
    }

pub take_passed-requires-clause-words : goal.take_passed-requires-clause-words
take_passed-requires-clause-words c = c.loop-step.invariant.words

pub take_record-requires : goal.take_record-requires
take_record-requires c =
    let words = ap (λ (x : Configuration). x.words) c.in_ok-take_passed.ensures.stays ∙ c.loop-step.invariant.words in
    subst (λ (ws : List Word). AreMoves ws (map move c.args.moves.now)) (sym words) c.requires.moves

pub loop-step-preserved : goal.loop-step-preserved
loop-step-preserved c =
    let inv = c.loop-step.invariant in
    let i = c.loop-step.step-index in
    let steps = c.args.steps.now in
    let r = c.step-item.result in
    let first : IsTrue c.in_ok-take_passed.field-0 = search rules in
    let second : IsTrue c.in_ok-take_record.field-0 = search rules in
    record {
      words = c.in_ok-take_record.ensures.words ∙ ap (λ (x : Configuration). x.words) c.in_ok-take_passed.ensures.stays ∙ inv.words;
      rest = λ h. inv.rest (past_both (formula c.args.origin.now.program.now.spec.rely) c.args.origin.now.limit (map move c.args.moves.now) c.args.passed.now c.loop-step.walk c.take_passed.new.walk c.take_record.new.walk r (drop i steps) (drop (i + 1) steps)
          (c.in_ok-take_passed.ensures.goes first) (c.in_ok-take_record.ensures.goes second) (drop_at steps i r c.step-item.is c.loop-step-test.true) h);
    }

pub take_passed-requires-2-clause-words : goal.take_passed-requires-2-clause-words
take_passed-requires-2-clause-words c = c.loop-step.invariant.words

pub returns : goal.returns
returns c = λ t.
    let inv = c.loop-step.invariant in
    let y = c.take_passed-2.new.walk in
    let moves = c.args.moves.now in
    let passed = c.args.passed.now in
    let steps = c.args.steps.now in
    let i = c.loop-step.step-index in
    let first : IsTrue c.in_ok-take_passed-2.field-0 = search rules in
    let over : length steps ≤ i = search rules in
    let met : y.moves ≡ length moves = search (rules, c.if-walk-moves.false) in
    let size = length-map moves move in
    let all_moves : length (map move moves) ≤ y.moves = omega (arith, met, size) in
    let met_all : y.passed ≡ length passed = search (rules, t) in
    let all_passed : length passed ≤ y.passed = omega (arith, met_all) in
    let none : drop i steps ≡ [] = drop_of_length-le steps over in
    let P : List Entry → Type 0 = λ rs. RestStands (formula c.args.origin.now.program.now.spec.rely) c.args.origin.now.limit (map move moves) passed c.loop-step.walk rs in
    inv.rest (subst P (sym none) (c.in_ok-take_passed-2.ensures.goes first [] (all_stand (formula c.args.origin.now.program.now.spec.rely) c.args.origin.now.limit (map move moves) passed y all_moves all_passed)))
