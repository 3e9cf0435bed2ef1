use Rattle.std.proofs.Common.{[], ◌++◌, map, cond, refl, ap, ◌∙◌, arith, append_assoc}
use Rattle.std.specs.List.{flat_map}
use Rattle.std.proofs.lemmas.Result.{IfOk-weaker}
use Rattle.rg_syntax.specs.Written.{statement}
use Rattle.rg_syntax.proofs.Sizes.{first_smaller, second_smaller, body_smaller}
use Rattle.rg_build.specs.Inner.DraftLines.{statement_lines, joined_line}
use Rattle.rg_build.proofs.Counts.{item_smaller, gather_step, gather_end, gather_map, gather_items, block_is, branch_lines, loop_lines}
use Rattle.rg_build.proofs.begun.+lines.Goals as goal

pub add_statement-add_block-requires : goal.add_statement-add_block-requires
add_statement-add_block-requires t c =
    let smaller = first_smaller [] c.args.s.now _ _ _ _ c.in-If.is c.deref.result.now _ c.deref.ensures.value refl in
    (omega (arith, smaller, c.decreases), c.requires)

pub add_statement-add_block-requires-in-If : goal.add_statement-add_block-requires-in-If
add_statement-add_block-requires-in-If t c =
    let smaller = second_smaller [] c.args.s.now _ _ _ _ c.in-If.is _ c.deref-in-If.result.now refl c.deref-in-If.ensures.value in
    (omega (arith, smaller, c.decreases), c.requires)

pub add_statement-add_block-requires-in-While : goal.add_statement-add_block-requires-in-While
add_statement-add_block-requires-in-While t c =
    let smaller = body_smaller [] c.args.s.now _ _ _ c.in-While.is c.deref-in-While.result.now c.deref-in-While.ensures.value in
    (omega (arith, smaller, c.decreases), c.requires)

pub add_statement-returns-in_ok-add_block-in-If : goal.add_statement-returns-in_ok-add_block-in-If
add_statement-returns-in_ok-add_block-in-If t c =
    IfOk-weaker c.add_block-in-If.result _ _ (λ done e src. branch_lines src c.args.s.now _ _ _ _ c.in-If.is _ _ c.deref.ensures.value c.deref-in-If.ensures.value _ (c.first_line.ensures src) _ _ _ _ c.in_ok-put.ensures (c.in_ok-add_block-in-If.ensures src) (e src)) c.add_block-in-If.ensures

pub add_statement-returns-in-While : goal.add_statement-returns-in-While
add_statement-returns-in-While t c =
    IfOk-weaker c.add_block-in-While.result _ _ (λ done e src. loop_lines src c.args.s.now _ _ _ c.in-While.is _ c.deref-in-While.ensures.value _ (c.first_line.ensures src) _ _ _ c.in_ok-put.ensures (e src)) c.add_block-in-While.ensures

pub add_block-returns : goal.add_block-returns
add_block-returns t c = IfOk-weaker c.add_items.result _ _ (λ done e src. block_is src c.args.items.now _ _ (e src)) c.add_items.ensures

pub add_items-add_statement-requires : goal.add_items-add_statement-requires
add_items-add_statement-requires t c =
    let smaller = item_smaller c.args.items.now c.loop-one.one-index c.one-item.result c.loop-one-test.true c.one-item.is in
    (omega (arith, smaller, c.decreases), c.requires)

pub add_items-loop-one-preserved : goal.add_items-loop-one-preserved
add_items-loop-one-preserved t c = λ src.
    gather_step (λ s. statement_lines (statement src s)) c.args.items.now c.loop-one.one-index _ _ _ _ c.loop-one-test.true c.one-item.is (c.loop-one.invariant src) (c.in_ok-add_statement.ensures src)

pub add_items-returns : goal.add_items-returns
add_items-returns t c = λ src.
    let items = c.args.items.now in
    let view = map (statement src) items in
    gather_end (λ s. statement_lines (statement src s)) items c.loop-one.one-index _ _ c.loop-one-test.false (c.loop-one.invariant src)
    ∙ ap (λ xs. xs ++ flat_map (λ s. statement_lines (statement src s)) items) (c.in_ok-add_sequence.ensures src)
    ∙ append_assoc c.args.lines.now.items (cond c.args.joined (joined_line view) []) _
    ∙ ap (λ xs. c.args.lines.now.items ++ (cond c.args.joined (joined_line view) [] ++ xs)) (gather_map statement_lines (statement src) items ∙ gather_items view)
