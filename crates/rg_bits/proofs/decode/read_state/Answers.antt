use Rattle.std.proofs.Common.{length, arith, ap, ◌∙◌}
use Rattle.std.proofs.Math.ListN.{length-set}
use Rattle.rg_words.specs.Layout.{widths_of}
use Rattle.rg_words.specs.States.{Valuation}
use Rattle.rg_rows.specs.Within.{rows_of}
use Rattle.rg_bits.proofs.Values.{rows_count, read_limit, read_fits, read_more, all_read}
use Rattle.rg_bits.proofs.decode.read_state.Goals as goal

pub bounds-rows-k : goal.bounds-rows-k
bounds-rows-k c = omega (arith, rows_count c.args.words.now c.args.rows.now c.requires)

pub row_number-number-requires : goal.row_number-number-requires
row_number-number-requires c =
    read_limit c.args.words.now c.args.rows.now c.loop-k.k c.index-rows-k.result c.deref.result.now c.requires (omega arith) c.index-rows-k.is c.deref.ensures.value c.len-k-end.ensures.layout

pub set-requires-clause-value : goal.set-requires-clause-value
set-requires-clause-value c =
    rw (c.row_number-number.ensures, c.loop-k.invariant.widths)
    (read_fits c.args.words.now c.args.rows.now c.loop-k.k c.index-rows-k.result c.deref.result.now c.requires (omega arith) c.index-rows-k.is c.deref.ensures.value c.args.values.now)

pub loop-k-preserved : goal.loop-k-preserved
loop-k-preserved c =
    let l = c.loop-k in
    let v = c.args.values.now in
    record {
      widths = c.set.ensures.widths ∙ l.invariant.widths;
      size = ap length c.set.ensures.values ∙ length-set l.state.values l.k c.row_number-number.result ∙ l.invariant.size;
      values = rw (c.set.ensures.values, c.row_number-number.ensures)
          (read_more c.args.words.now c.args.rows.now l.k c.index-rows-k.result c.deref.result.now c.requires (omega arith) c.index-rows-k.is c.deref.ensures.value v l.state.values l.invariant.size l.invariant.values);
    }

pub returns : goal.returns
returns c =
    let l = c.loop-k in
    let v = c.args.values.now in
    let words = c.args.words.now in
    let numbers = all_read v words (rows_of c.args.rows.now) l.state.values l.k c.requires l.invariant.size (omega arith) l.invariant.values in
    ap (λ ws. let s : Valuation = record { widths = ws; values = l.state.values } in s) l.invariant.widths
    ∙ ap (λ xs. let s : Valuation = record { widths = widths_of words; values = xs } in s) numbers
