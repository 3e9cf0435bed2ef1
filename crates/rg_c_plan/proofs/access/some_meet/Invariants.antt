use Rattle.std.proofs.Common.{◌≡◌, drop}
use Rattle.rg_c_plan.specs.Accesses.{some_meet}
use Rattle.rg_c_plan.proofs.access.some_meet.Given as goal

-- none of those so far meets a later one
abbrev pub invariant-loop-i : goal.invariant-loop-i
invariant-loop-i l = some_meet (drop l.i l.list) ≡ some_meet l.list
