use Rattle.std.proofs.Common.{◌≡◌, drop}
use Rattle.rg_erase.specs.Faults.{is_in}
use Rattle.rg_erase.proofs.definitions.is_in.Given as goal

-- it is none of those so far
abbrev pub invariant-loop-x : goal.invariant-loop-x
invariant-loop-x l = is_in l.k (drop l.x-index l.list) ≡ is_in l.k l.list
