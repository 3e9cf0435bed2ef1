use Rattle.std.proofs.Common.{◌≡◌, map, drop}
use Rattle.rg_words.specs.Layout.{widths_of}
use Rattle.rg_tree.specs.ConditionTrees.{assignment, assigned, AssignmentsTyped}
use Rattle.rg_runs.proofs.step.leads.Given as goal

-- the assignments that are left lead to where all of them lead
abbrev pub invariant-loop-assign : goal.invariant-loop-assign
invariant-loop-assign l = record {
  widths : l.state.widths ≡ widths_of l.layout;
  typed : AssignmentsTyped (widths_of l.layout) (map assignment (drop l.assign-index l.act));
  values : assigned (map assignment (drop l.assign-index l.act)) l.state.values ≡ assigned (map assignment l.act) l.before.values;
}
