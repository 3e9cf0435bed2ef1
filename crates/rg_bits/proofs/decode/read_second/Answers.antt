use Rattle.std.proofs.Common.{◌≡◌, length, map, ap, ◌∙◌}
use Rattle.rg_words.specs.Layout.{widths_of}
use Rattle.rg_rows.specs.Within.{rows_of}
use Rattle.rg_rows.specs.Inputs.{total_width}
use Rattle.rg_bits.proofs.FormulaLaw.{row_counts}
use Rattle.rg_bits.proofs.Widths.{first_lengths, free_lengths}
use Rattle.rg_bits.proofs.decode.read_second.Goals as goal

pub free_state-requires : goal.free_state-requires
free_state-requires c = row_counts c.args.first.now c.args.condition.now.layout c.requires

pub read_state-requires : goal.read_state-requires
read_state-requires c =
    let words = c.args.condition.now.layout in
    let first : map length (rows_of c.args.first.now) ≡ widths_of words = ap (map length) c.requires ∙ first_lengths 0 words in
    ap (λ rows. map length (rows_of rows)) c.deref.ensures.value ∙ ap (map length) c.in_ok-rows-in-Free.ensures.rows ∙ free_lengths (total_width words) words (rows_of c.args.first.now) first
