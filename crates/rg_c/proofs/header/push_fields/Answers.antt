use Rattle.std.proofs.Common.{◌<◌, ◌+◌, ◌-◌, ◌++◌, ◌∙◌, length, ap, sym, append_assoc, rules}
use Rattle.std.specs.List.{flat_map, range_with_len}
use Rattle.std.specs.String.{string_bytes}
use Rattle.rg_tree.specs.ProgramTrees.{program}
use Rattle.rg_c.specs.Headers.{field_text}
use Rattle.rg_c.proofs.Places.{range_more}
use Rattle.rg_c.proofs.header.push_fields.Goals as goal

pub loop-word-preserved : goal.loop-word-preserved
loop-word-preserved c =
    let i = c.loop-word.word in
    let n = length c.args.program.now.layout in
    let less : i < n = search rules in
    let f = field_text (program c.args.program.now) c.args.kinds.now in
    let old = string_bytes c.loop-word.text in
    let rest = flat_map f (range_with_len (i + 1) (n - (i + 1))) in
    ap (λ t. t ++ rest) c.in_ok-push_field.ensures
    ∙ append_assoc old (f i) rest
    ∙ ap (λ k. old ++ flat_map f k) (sym (range_more i n less))
    ∙ c.loop-word.invariant
