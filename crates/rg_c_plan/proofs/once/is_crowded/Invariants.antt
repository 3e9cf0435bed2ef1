use Rattle.std.proofs.Common.{◌≡◌, map, drop}
use Rattle.rg_c_plan.specs.View.{view}
use Rattle.rg_c_plan.specs.Kinds.{is_crowded}
use Rattle.rg_c_plan.proofs.once.is_crowded.Given as goal

-- none of those so far
abbrev pub invariant-loop-v : goal.invariant-loop-v
invariant-loop-v l = is_crowded (map view (drop l.v-index l.views)) l.word ≡ is_crowded (map view l.views) l.word
