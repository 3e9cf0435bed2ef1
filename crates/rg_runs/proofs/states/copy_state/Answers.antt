use Rattle.std.proofs.Common.{length, sym, ◌∙◌, ap, arith}
use Rattle.std.proofs.lemmas.List.{length-set, take_all}
use Rattle.rg_runs.proofs.Words.{state_length, state_at, copied_more}
use Rattle.rg_runs.proofs.states.copy_state.Goals as goal

pub get-requires : goal.get-requires
get-requires c = omega (arith, state_length c.args.layout.now c.args.state.now.values c.requires)

pub set-requires-clause-value : goal.set-requires-clause-value
set-requires-clause-value c = rw (c.get.ensures.exact, c.loop-word.invariant.widths) (state_at c.args.layout.now c.args.state.now.values c.loop-word.word c.requires (omega arith))

pub loop-word-preserved : goal.loop-word-preserved
loop-word-preserved c =
    let count = state_length c.args.layout.now c.args.state.now.values c.requires in
    record {
      widths = c.set.ensures.widths ∙ c.loop-word.invariant.widths;
      count = ap length c.set.ensures.values ∙ length-set c.loop-word.copy.values c.loop-word.word c.get.result ∙ c.loop-word.invariant.count;
      values = rw (c.set.ensures.values, c.get.ensures.exact) (copied_more c.loop-word.copy.values c.args.state.now.values c.loop-word.word (c.loop-word.invariant.count ∙ sym count) (omega (arith, count)) c.loop-word.invariant.values);
    }

pub returns-clause-values : goal.returns-clause-values
returns-clause-values c =
    let count = state_length c.args.layout.now c.args.state.now.values c.requires in
    let all_copied = take_all c.loop-word.word c.loop-word.copy.values (omega (arith, c.loop-word.invariant.count)) in
    let all_there = take_all c.loop-word.word c.args.state.now.values (omega (arith, count)) in
    sym all_copied ∙ (c.loop-word.invariant.values ∙ all_there)
