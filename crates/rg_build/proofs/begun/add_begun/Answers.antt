use Rattle.std.proofs.Common.{ap, map, ◌++◌, ◌∙◌}
use Rattle.std.specs.List.{flat_map}
use Rattle.std.proofs.lemmas.Result.{IfOk-weaker}
use Rattle.rg_syntax.specs.Written.{part_text}
use Rattle.rg_build.specs.Inner.Drafts.{open_block}
use Rattle.rg_build.specs.Inner.DraftLines.{open_lines, part_lines}
use Rattle.rg_build.proofs.Counts.{all_begun}
use Rattle.rg_build.proofs.begun.add_begun.Goals as goal

pub returns : goal.returns
returns c =
    IfOk-weaker c.add_place.result _ _ (λ done e src.
    all_begun (open_block src) open_lines c.args.draft.now.blocks.items _ _ _ _ _ _
    (c.in_ok-add_parts.ensures src ∙ ap (λ xs. c.args.lines.now.items ++ part_lines (map (part_text src) xs)) c.deref.ensures.value)
    (c.in_ok-add_open.ensures src ∙ ap (λ xs. c.add_parts.new.lines.items ++ flat_map open_lines (map (open_block src) xs)) c.deref-2.ensures.value)
    (e src)) c.add_place.ensures
