-- Steps of the code, without where they lie in memory.
use Rattle.std.specs.Prelude.{map, Option, option_map}
use Rattle.std.specs.Borrow.{Bor}
use Rattle.rg_tree.specs.Trees.{Proposition}
use Rattle.rg_tree.specs.View.{expression, formula}
use Rattle.rg_tree.specs.ConditionTrees.{assignment}
use Rattle.rg_tree.specs.declared.tree.Formula.{Formula}
use Rattle.rg_c_plan.specs.Changes.{ChangeTree, moving}
use Rattle.rg_c_plan.specs.Accesses.{StepTree}
use Rattle.rg_c_plan.specs.Once.{IndexTree}
use Rattle.rg_c_plan.specs.Views.{ViewTree}
use Rattle.rg_c_plan.specs.declared.change.Change.{Change}
use Rattle.rg_c_plan.specs.declared.chosen.Index.{Index}
use Rattle.rg_c_plan.specs.declared.views.PartView.{PartView}
use Rattle.rg_c_plan.specs.declared.step.Step.{Step}

-- a guard or test, if there is one
abbrev pub guard_tree : Option (Bor Formula) → Option Proposition
guard_tree guard = option_map (λ f. formula f.now) guard

-- a step of the code, which leaves out assignments of words to themselves
abbrev pub step : Step → StepTree
step s = record { line = s.line; guard = guard_tree s.guard; act = moving (map assignment s.act.now) }

-- a change, an index and a part's view
abbrev pub change : Change → ChangeTree
change c = record { test = guard_tree c.test; value = expression c.value.now }

abbrev pub index : Index → IndexTree
index i = record { index = expression i.index.now; place = i.place }

abbrev pub view : PartView → ViewTree
view v = record { kinds = v.kinds.items; steps = map step v.steps.items }
