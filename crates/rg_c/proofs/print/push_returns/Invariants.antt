use Rattle.std.proofs.Common.{◌≡◌, ◌++◌, drop}
use Rattle.std.specs.String.{string_bytes}
use Rattle.rg_c.specs.CStatements.{returns, each}
use Rattle.rg_c.specs.View.{on}
use Rattle.rg_c.proofs.print.push_returns.Given as goal

abbrev pub invariant-loop-word : goal.invariant-loop-word
invariant-loop-word l = string_bytes l.text ++ on l.s (each returns (drop l.word-index l.words)) ≡ string_bytes l.initial.text ++ on l.s (each returns l.words)
