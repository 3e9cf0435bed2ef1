use Rattle.std.proofs.Common.{◌<◌, ◌∙◌, length, ap, rules}
use Rattle.std.proofs.lemmas.List.{length-set}
use Rattle.rg_words.specs.Layout.{widths_of}
use Rattle.rg_tree.specs.View.{formula}
use Rattle.rg_c.specs.Starts.{given_value}
use Rattle.rg_c.proofs.Starts.{given_within, one_set}
use Rattle.rg_c.proofs.start.given_values.Goals as goal

pub set-requires-clause-value : goal.set-requires-clause-value
set-requires-clause-value c =
    rw (c.loop-word.invariant.widths, c.given_value.ensures)
    (given_within (widths_of c.args.program.now.layout) c.loop-word.word (formula c.args.program.now.spec.pre) c.args.program.now.typed.spec.0.0)

pub loop-word-preserved : goal.loop-word-preserved
loop-word-preserved c =
    let n = length c.args.program.now.layout in
    let less : c.loop-word.word < n = search rules in
    record {
      widths = c.set.ensures.widths ∙ c.loop-word.invariant.widths;
      count = ap length c.set.ensures.values ∙ length-set c.loop-word.state.values c.loop-word.word c.given_value.result ∙ c.loop-word.invariant.count;
      values = c.set.ensures.values ∙ one_set (given_value (formula c.args.program.now.spec.pre)) c.loop-word.word n c.loop-word.state.values c.given_value.result less c.loop-word.invariant.values c.given_value.ensures;
    }
