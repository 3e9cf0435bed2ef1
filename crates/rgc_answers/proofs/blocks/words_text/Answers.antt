use Rattle.std.proofs.Common.{◌≡◌, ◌∙◌, ◌++◌, [], false, get_or, sym, ap, rules}
use Rattle.std.specs.Prelude.{string_bytes}
use Rattle.rg_words.specs.Layout.{names_of, widths_of, fixed_of}
use Rattle.rgc_answers.specs.Blocks.{word_text}
use Rattle.rgc_answers.proofs.Written.{words_taken}
use Rattle.rgc_answers.proofs.blocks.words_text.Goals as goal

pub loop-word-preserved : goal.loop-word-preserved
loop-word-preserved c =
    let words = c.args.layout.now in
    let i = c.loop-word.word in
    let word = word_text (get_or (fixed_of words) i false) (get_or (names_of words) i []) (get_or (widths_of words) i 0) in
    let pushed : string_bytes c.push_str.new.self ≡ string_bytes c.loop-word.text ++ word = search rules in
    pushed ∙ ap (λ l. l ++ word) c.loop-word.invariant ∙ sym (words_taken words i (search rules))
