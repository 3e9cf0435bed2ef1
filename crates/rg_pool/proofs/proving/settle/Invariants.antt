use Rattle.std.proofs.Common.{◌<◌, ℕ, map}
use Rattle.std.specs.Prelude.{slice_index_or}
use Rattle.rg_tree.specs.ConditionTrees.{ConditionTree}
use Rattle.rg_tree.specs.Conditions.{condition_tree, ConditionHolds}
use Rattle.rg_hints.specs.Placed.{text_of}
use Rattle.rg_pool.proofs.VerdictSteps.{IsProvedAt}
use Rattle.rg_pool.proofs.proving.settle.Given as goal

-- the conditions so far are proved, and so true
abbrev pub invariant-loop-index : goal.invariant-loop-index
invariant-loop-index g l = record {
  proved : (i : ℕ) → i < l.index → IsProvedAt (map text_of l.part.sections.now) l.part.before (map condition_tree l.part.conditions.now) i;
  hold : (i : ℕ) → i < l.index → (d : ConditionTree) → ConditionHolds (slice_index_or (map condition_tree l.part.conditions.now) i d);
}
