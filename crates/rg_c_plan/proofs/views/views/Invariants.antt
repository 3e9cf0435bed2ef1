use Rattle.std.proofs.Common.{◌≡◌, ◌++◌, map, drop}
use Rattle.rg_tree.specs.ProgramView.{part}
use Rattle.rg_tree.specs.ProgramTrees.{program as program_tree}
use Rattle.rg_c_plan.specs.View.{view}
use Rattle.rg_c_plan.specs.Views.{views_from, views}
use Rattle.rg_c_plan.proofs.views.views.Given as goal

-- those so far, and those of the rest
abbrev pub invariant-loop-place : goal.invariant-loop-place
invariant-loop-place l = map view l.list.items ++ views_from (program_tree l.program) l.order l.kinds l.place (map part (drop l.place l.part-items)) ≡ views (program_tree l.program) l.order l.kinds
