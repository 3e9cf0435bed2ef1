use Rattle.std.proofs.Common.{◌≡◌, map, drop}
use Rattle.rg_c_plan.specs.View.{view}
use Rattle.rg_c_plan.specs.Kinds.{failing}
use Rattle.rg_c_plan.proofs.once.failing.Given as goal

-- none of those so far
abbrev pub invariant-loop-v : goal.invariant-loop-v
invariant-loop-v l = failing (map view (drop l.v-index l.views)) ≡ failing (map view l.views)
