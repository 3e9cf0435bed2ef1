use Rattle.std.proofs.Common.{◌≡◌, drop}
use Rattle.rg_c.specs.Assigned.{is_in}
use Rattle.rg_c.proofs.assigned.is_in.Given as goal

abbrev pub invariant-loop-x : goal.invariant-loop-x
invariant-loop-x l = is_in l.k (drop l.x-index l.list) ≡ is_in l.k l.list
