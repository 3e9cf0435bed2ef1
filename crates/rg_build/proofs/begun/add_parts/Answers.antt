use Rattle.std.proofs.Common.{ap, map, ◌++◌, ◌∙◌}
use Rattle.rg_syntax.specs.Written.{part_text, statement, listed}
use Rattle.rg_build.specs.Inner.DraftLines.{block_lines}
use Rattle.rg_build.proofs.Counts.{gather_step, gather_end, gather_map}
use Rattle.rg_build.proofs.begun.add_parts.Goals as goal

pub loop-part-preserved : goal.loop-part-preserved
loop-part-preserved c = λ src.
    gather_step (λ p. block_lines (part_text src p).body) c.args.parts.now c.loop-part.part-index _ _ _ _ c.loop-part-test.true c.part-item.is (c.loop-part.invariant src) (c.in_ok-add_block.ensures src ∙ ap (λ xs. c.loop-part.lines.items ++ block_lines (listed (map (statement src) xs))) c.deref.ensures.value)

pub returns : goal.returns
returns c = λ src.
    gather_end (λ p. block_lines (part_text src p).body) c.args.parts.now c.loop-part.part-index _ _ c.loop-part-test.false (c.loop-part.invariant src)
    ∙ ap (λ xs. c.args.lines.now.items ++ xs) (gather_map (λ p. block_lines p.body) (part_text src) c.args.parts.now)
