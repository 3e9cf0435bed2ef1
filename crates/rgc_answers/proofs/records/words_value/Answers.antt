use Rattle.std.proofs.Common.{◌≡◌, [], ◌∷◌, map, min, length, ap, ◌∙◌, rules}
use Rattle.std.proofs.lemmas.List.{map-append}
use Rattle.serde_json.specs.View.{view, items_of}
use Rattle.serde_json.specs.Data.{array}
use Rattle.serde_json.specs.declared.value.Value.{the_lemmas}
use Rattle.rg_words.specs.Layout.{names_of}
use Rattle.rgc_answers.specs.Records.{words_data}
use Rattle.rgc_answers.proofs.Words.{word_pushed, all_taken}
use Rattle.rgc_answers.proofs.records.words_value.Goals as goal

pub loop-word-preserved : goal.loop-word-preserved
loop-word-preserved c =
    ap (λ vs. map view vs) c.in_ok-push.ensures.items
    ∙ map-append view c.loop-word.values.items (c.in_ok-word_value.field-0 ∷ [])
    ∙ word_pushed c.args.layout.now c.loop-word.word c.args.before.now.values c.args.after.now.values (map view c.loop-word.values.items) (view c.in_ok-word_value.field-0) c.name-name.result.now c.get.result c.get-in-loop-word.result
    (search rules) (search rules) (search rules) c.loop-word.invariant c.in_ok-word_value.ensures c.name-name.ensures.exact c.get.ensures.exact c.get-in-loop-word.ensures.exact

pub returns : goal.returns
returns c =
    let words = c.args.layout.now in
    let xs = c.args.before.now.values in
    let ys = c.args.after.now.values in
    let end : c.loop-word.word ≡ min (min (length words) (length xs)) (length ys) = search rules in
    let all = c.loop-word.invariant ∙ all_taken c.loop-word.word words xs ys end in
    let seen : array (items_of (map view c.loop-word.values.items)) ≡ array (items_of (words_data (names_of words) xs ys)) = ap (λ ds. array (items_of ds)) all in
    search (rules, the_lemmas, seen)
