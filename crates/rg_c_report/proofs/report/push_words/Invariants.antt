use Rattle.std.proofs.Common.{◌≡◌, ◌++◌, ◌-◌, length, map}
use Rattle.std.specs.String.{string_bytes}
use Rattle.rg_tree.specs.ProgramTrees.{program as program_tree}
use Rattle.rg_c_plan.specs.View.{view}
use Rattle.rg_c_report.specs.Reports.{words_text}
use Rattle.rg_c_report.proofs.report.push_words.Given as goal

-- those so far, and those of the rest
abbrev pub invariant-loop-word : goal.invariant-loop-word
invariant-loop-word l =
    string_bytes l.text ++ words_text (program_tree l.page.program.now) l.page.kinds.now l.page.lines.now (map view l.views) l.word (length l.page.program.now.layout - l.word)
    ≡ string_bytes l.initial.text ++ words_text (program_tree l.page.program.now) l.page.kinds.now l.page.lines.now (map view l.views) 0 (length l.page.program.now.layout)
