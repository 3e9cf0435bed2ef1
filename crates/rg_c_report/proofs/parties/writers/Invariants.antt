use Rattle.std.proofs.Common.{◌≡◌, ◌++◌, map, drop}
use Rattle.rg_c_report.specs.Inner.Party.{party}
use Rattle.rg_c_report.specs.Parties.{writers}
use Rattle.rg_c_report.proofs.parties.writers.Given as goal

-- those so far, and those of the rest
abbrev pub invariant-loop-party : goal.invariant-loop-party
invariant-loop-party l = map (λ t. t.now) l.names.items ++ writers (map party (drop l.party-index l.list)) ≡ writers (map party l.list)
