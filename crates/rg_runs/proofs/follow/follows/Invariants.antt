use Rattle.std.proofs.Common.{◌≡◌, suc, true, map, drop}
use Rattle.rg_tree.specs.ProgramView.{part}
use Rattle.rg_runs.specs.View.{steps}
use Rattle.rg_runs.proofs.Verdicts.{verdict}
use Rattle.rg_runs.proofs.follow.follows.Given as goal

-- the verdict of the parts that are left is that of all
abbrev pub invariant-loop-part : goal.invariant-loop-part
invariant-loop-part l = record {
  number : l.number ≡ l.part-index;
  same : verdict (suc l.number) l.ended (map part (drop l.part-index l.program.parts.items)) l.trace.first.values (steps l.trace.steps.items) ≡ verdict 1 true (map part l.program.parts.items) l.trace.first.values (steps l.trace.steps.items);
}
