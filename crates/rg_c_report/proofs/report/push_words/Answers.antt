use Rattle.std.proofs.Common.{◌<◌, ◌+◌, ◌-◌, ◌++◌, ◌∙◌, length, map, ap, sym, append_assoc, rules}
use Rattle.std.specs.String.{string_bytes}
use Rattle.rg_tree.specs.ProgramTrees.{program as program_tree}
use Rattle.rg_c_plan.specs.View.{view}
use Rattle.rg_c_report.specs.Reports.{word_text, words_text}
use Rattle.rg_c_report.proofs.Rest.{words_next}
use Rattle.rg_c_report.proofs.report.push_words.Goals as goal

pub loop-word-preserved : goal.loop-word-preserved
loop-word-preserved c =
    let i = c.loop-word.word in
    let p = program_tree c.args.page.now.program.now in
    let kinds = c.args.page.now.kinds.now in
    let lines = c.args.page.now.lines.now in
    let vs = map view c.args.views.now in
    let n = length p.words in
    let less : i < n = search rules in
    let rest = words_text p kinds lines vs (i + 1) (n - (i + 1)) in
    let old = string_bytes c.loop-word.text in
    ap (λ t. t ++ rest) c.in_ok-push_word.ensures
    ∙ append_assoc old (word_text p kinds lines vs i) rest
    ∙ ap (λ t. old ++ t) (sym (words_next p kinds lines vs i n less))
    ∙ c.loop-word.invariant
