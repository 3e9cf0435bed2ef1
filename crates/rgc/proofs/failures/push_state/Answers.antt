use Rattle.std.proofs.Common.{◌≡◌, ◌∙◌, ◌++◌, ◌<◌, ◌+◌, suc, [], length, take, min, codes, ap, sym, append_assoc, arith, rules}
use Rattle.std.specs.Prelude.{string_bytes, slice_index, slice_index_or}
use Rattle.rg_words.specs.Layout.{names_of}
use Rattle.rgc.specs.Failures.{value_text, values_text}
use Rattle.rgc.proofs.Values.{one_more, all_taken, whole_pushed}
use Rattle.rgc.proofs.failures.push_state.Goals as goal

pub loop-word-preserved : goal.loop-word-preserved
loop-word-preserved c =
    let i = c.loop-word.word in
    let names = names_of c.args.words.now in
    let values = c.args.state.now.values in
    let begun = string_bytes c.push_str.new.self in
    let before = values_text (take i names) (take i values) in
    let next = value_text (slice_index_or names i []) (slice_index values i) in
    let next_place : suc i ≡ i + 1 = omega arith in
    let less : i < length c.args.words.now = search rules in
    let least : i < length values = search rules in
    let value : c.deref.result.now ≡ next = search rules in
    let pushed : string_bytes c.push_str-in-loop-word.new.self ≡ string_bytes c.loop-word.text ++ c.deref.result.now = search rules in
    record {
      went = pushed
          ∙ ap (λ l. l ++ c.deref.result.now) c.loop-word.invariant.went
          ∙ ap (λ l. (begun ++ before) ++ l) value
          ∙ append_assoc begun before next
          ∙ ap (λ l. begun ++ l) (sym (one_more i c.args.words.now values less least))
          ∙ ap (λ n. begun ++ values_text (take n names) (take n values)) next_place;
    }

pub returns : goal.returns
returns c =
    let i = c.loop-word.word in
    let words = c.args.words.now in
    let values = c.args.state.now.values in
    let all = values_text (names_of words) values in
    let old = string_bytes c.args.text.now in
    let title = c.args.title.now in
    let end : i ≡ min (length words) (length values) = search rules in
    let begun : string_bytes c.push_str.new.self ≡ old ++ title = search rules in
    let went : string_bytes c.loop-word.text ≡ (old ++ title) ++ all =
    c.loop-word.invariant.went
    ∙ ap (λ l. l ++ values_text (take i (names_of words)) (take i values)) begun
    ∙ ap (λ l. (old ++ title) ++ l) (all_taken i words values end) in
    whole_pushed c.push_str-2.result _ _ _ _ c.push_str-2.ensures.bytes
    (ap (λ l. l ++ codes "\n") went ∙ append_assoc (old ++ title) all (codes "\n") ∙ append_assoc old title (all ++ codes "\n"))
