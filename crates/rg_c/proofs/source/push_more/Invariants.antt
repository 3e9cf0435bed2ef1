use Rattle.std.proofs.Common.{◌≡◌, ◌++◌, length, map, drop}
use Rattle.std.specs.String.{string_bytes}
use Rattle.rg_tree.specs.ConditionTrees.{assignment}
use Rattle.rg_c.specs.Fitting.{AssignmentsFit}
use Rattle.rg_c.specs.Source.{more_source}
use Rattle.rg_c.proofs.source.push_more.Given as goal

abbrev pub invariant-loop-a : goal.invariant-loop-a
invariant-loop-a l = record {
  text : string_bytes l.text ++ more_source l.layout (map assignment (drop l.a-index l.act)) ≡ string_bytes l.initial.text ++ more_source l.layout (map assignment l.act);
  rest : AssignmentsFit (length l.layout) (map assignment (drop l.a-index l.act));
}
