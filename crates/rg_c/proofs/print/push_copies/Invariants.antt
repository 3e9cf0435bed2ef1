use Rattle.std.proofs.Common.{◌≡◌, ◌++◌, drop}
use Rattle.std.specs.String.{string_bytes}
use Rattle.rg_c.specs.CStatements.{copies, each}
use Rattle.rg_c.specs.View.{on}
use Rattle.rg_c.proofs.print.push_copies.Given as goal

abbrev pub invariant-loop-word : goal.invariant-loop-word
invariant-loop-word l = string_bytes l.text ++ on l.s (each copies (drop l.word-index l.words)) ≡ string_bytes l.initial.text ++ on l.s (each copies l.words)
