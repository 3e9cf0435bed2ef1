use Rattle.std.proofs.Common.{◌≡◌, drop}
use Rattle.std.specs.List.{list_any}
use Rattle.rg_c_plan.specs.Accesses.{meet}
use Rattle.rg_c_plan.proofs.access.meets_any.Given as goal

-- none of those so far
abbrev pub invariant-loop-b : goal.invariant-loop-b
invariant-loop-b l = list_any (meet l.a) (drop l.b-index l.list) ≡ list_any (meet l.a) l.list
