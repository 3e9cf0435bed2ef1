use Rattle.std.proofs.Common.{◌≡◌, map, drop}
use Rattle.std.specs.List.{list_any}
use Rattle.rg_c.specs.Used.{given_reads}
use Rattle.rg_c.specs.View.{given}
use Rattle.rg_c.proofs.used.is_used.Given as goal

abbrev pub invariant-loop-g : goal.invariant-loop-g
invariant-loop-g l = list_any (given_reads l.word) (map given (drop l.g-index l.gs)) ≡ list_any (given_reads l.word) (map given l.gs)
