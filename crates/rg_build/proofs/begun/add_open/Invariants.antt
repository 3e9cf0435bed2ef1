use Rattle.std.proofs.Common.{◌≡◌, ℕ, List, ◌++◌, drop}
use Rattle.std.specs.List.{flat_map}
use Rattle.rg_build.specs.Inner.Drafts.{open_block}
use Rattle.rg_build.specs.Inner.DraftLines.{open_lines}
use Rattle.rg_build.proofs.begun.add_open.Given as goal

abbrev pub invariant-loop-block : goal.invariant-loop-block
invariant-loop-block l =
    (src : List ℕ) → l.lines.items ++ flat_map (λ b. open_lines (open_block src b)) (drop l.block-index l.blocks)
    ≡ l.initial.lines.items ++ flat_map (λ b. open_lines (open_block src b)) l.blocks
