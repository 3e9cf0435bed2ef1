use Rattle.std.proofs.Common.{◌≡◌, ◌∙◌, ◌<◌, ◌+◌, suc, [], length, take, min, ap, sym, arith, rules}
use Rattle.std.specs.Prelude.{slice_index, slice_index_or}
use Rattle.rg_words.specs.Layout.{names_of}
use Rattle.serde_json.specs.Data.{put, number, unsigned}
use Rattle.serde_json.specs.View.{view, members_view}
use Rattle.rgc_answers.specs.States.{with_values}
use Rattle.rgc_answers.proofs.Values.{one_more, all_taken}
use Rattle.rgc_answers.proofs.proof_lines.put_values.Goals as goal

pub loop-word-preserved : goal.loop-word-preserved
loop-word-preserved c =
    let i = c.loop-word.word in
    let words = c.args.words.now in
    let values = c.args.state.now.values in
    let old = members_view c.args.map.now.entries in
    let done = members_view c.loop-word.map.entries in
    let less : i < length words = search rules in
    let least : i < length values = search rules in
    let next : suc i ≡ i + 1 = omega arith in
    let named : c.name.result.now ≡ slice_index_or (names_of words) i [] = search rules in
    let valued : view c.from.result ≡ number (unsigned (slice_index values i)) = search rules in
    let stored : members_view c.put.new.map.entries ≡ put c.name.result.now (view c.from.result) done = search rules in
    record {
      went = stored
          ∙ ap (λ k. put k (view c.from.result) done) named
          ∙ ap (λ d. put (slice_index_or (names_of words) i []) d done) valued
          ∙ ap (λ ms. put (slice_index_or (names_of words) i []) (number (unsigned (slice_index values i))) ms) c.loop-word.invariant.went
          ∙ sym (one_more i words values old less least)
          ∙ ap (λ n. with_values (take n (names_of words)) (take n values) old) next;
    }

pub returns : goal.returns
returns c =
    let i = c.loop-word.word in
    let words = c.args.words.now in
    let values = c.args.state.now.values in
    let end : i ≡ min (length words) (length values) = search rules in
    c.loop-word.invariant.went ∙ all_taken i words values (members_view c.args.map.now.entries) end
