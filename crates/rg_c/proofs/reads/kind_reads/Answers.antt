use Rattle.std.proofs.Common.{[], ◌∷◌, ◌++◌, ◌∙◌, map, ap, sym, arith}
use Rattle.std.specs.List.{range_with_len}
use Rattle.std.proofs.lemmas.List.FromFn.{map-range_with_len_more}
use Rattle.rg_c.specs.Reads.{kind_read}
use Rattle.rg_c.proofs.reads.kind_reads.Goals as goal

pub loop-word-preserved : goal.loop-word-preserved
loop-word-preserved c =
    let i = c.loop-word.word in
    let f = kind_read c.args.kinds.now in
    c.in_ok-push.ensures.items
    ∙ ap (λ xs. xs ++ c.kind_read.result ∷ []) c.loop-word.invariant
    ∙ ap (λ x. map f (range_with_len 0 i) ++ x ∷ []) c.kind_read.ensures
    ∙ sym (map-range_with_len_more f 0 i i (omega arith))
