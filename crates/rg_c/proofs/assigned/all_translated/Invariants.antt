use Rattle.std.proofs.Common.{◌≡◌, ◌++◌, length, map, drop}
use Rattle.rg_words.specs.Layout.{widths_of}
use Rattle.rg_tree.specs.ConditionTrees.{assignment}
use Rattle.rg_c.specs.Fitting.{AssignmentsFit}
use Rattle.rg_c.specs.Assigned.{given_of}
use Rattle.rg_c.specs.View.{given}
use Rattle.rg_c.proofs.assigned.all_translated.Given as goal

-- those so far, and those of the rest
abbrev pub invariant-loop-a : goal.invariant-loop-a
invariant-loop-a l = record {
  list : map given l.list.items ++ map (given_of (widths_of l.layout)) (map assignment (drop l.a-index l.act)) ≡ map (given_of (widths_of l.layout)) (map assignment l.act);
  rest : AssignmentsFit (length l.layout) (map assignment (drop l.a-index l.act));
}
