use Rattle.std.proofs.Common.{◌≡◌, ◌++◌, map, drop}
use Rattle.rg_c_report.specs.Words.{name_of}
use Rattle.rg_c_report.proofs.report.names_of.Given as goal

-- those so far, and those of the rest
abbrev pub invariant-loop-word : goal.invariant-loop-word
invariant-loop-word l = map (λ t. t.now) l.names.items ++ map (name_of l.layout) (drop l.word-index l.words) ≡ map (name_of l.layout) l.words
