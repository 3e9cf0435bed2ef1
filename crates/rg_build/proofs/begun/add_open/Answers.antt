use Rattle.std.proofs.Common.{ap, ◌++◌, ◌∙◌}
use Rattle.rg_build.specs.Inner.Drafts.{open_block}
use Rattle.rg_build.specs.Inner.DraftLines.{open_lines}
use Rattle.rg_build.proofs.Counts.{gather_end, gather_map}
use Rattle.rg_build.proofs.begun.add_open.Goals as goal

pub returns : goal.returns
returns c = λ src.
    gather_end (λ b. open_lines (open_block src b)) c.args.blocks.now c.loop-block.block-index _ _ c.loop-block-test.false (c.loop-block.invariant src)
    ∙ ap (λ xs. c.args.lines.now.items ++ xs) (gather_map open_lines (open_block src) c.args.blocks.now)
