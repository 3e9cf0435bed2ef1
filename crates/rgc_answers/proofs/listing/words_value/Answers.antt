use Rattle.std.proofs.Common.{◌≡◌, [], ◌∷◌, map, ap, ◌∙◌, rules}
use Rattle.std.proofs.lemmas.List.{map-append, take_all}
use Rattle.serde_json.specs.View.{view, items_of}
use Rattle.serde_json.specs.Data.{array}
use Rattle.serde_json.specs.declared.value.Value.{the_lemmas}
use Rattle.rgc_answers.specs.Listing.{word_data}
use Rattle.rgc_answers.proofs.Listed.{word_pushed}
use Rattle.rgc_answers.proofs.listing.words_value.Goals as goal

pub loop-word-preserved : goal.loop-word-preserved
loop-word-preserved c =
    ap (λ vs. map view vs) c.in_ok-push.ensures.items
    ∙ map-append view c.loop-word.values.items (c.in_ok-word_value.field-0 ∷ [])
    ∙ word_pushed c.args.layout.now c.loop-word.word (map view c.loop-word.values.items) (view c.in_ok-word_value.field-0) c.name.result.now c.width.result c.is_fixed-fixed.result
    (search rules) c.loop-word.invariant c.in_ok-word_value.ensures c.name.ensures.exact c.width.ensures.exact c.is_fixed-fixed.ensures

pub returns : goal.returns
returns c =
    let all = c.loop-word.invariant ∙ ap (λ ws. map word_data ws) (take_all c.loop-word.word c.args.layout.now (search rules)) in
    let seen : array (items_of (map view c.loop-word.values.items)) ≡ array (items_of (map word_data c.args.layout.now)) = ap (λ ds. array (items_of ds)) all in
    search (rules, the_lemmas, seen)
