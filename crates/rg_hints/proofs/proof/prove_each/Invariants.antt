use Rattle.std.proofs.Common.{◌≡◌, ◌+◌, ◌≤◌, ℕ, length, map, drop}
use Rattle.rg_words.specs.declared.refusal.Refusal.{Refusal}
use Rattle.rg_tree.specs.Conditions.{condition_tree}
use Rattle.rg_tree.specs.RuleConditions.{AllConditionsHold}
use Rattle.rg_hints.specs.Proved.{section_for, AllProvedFrom, IsFirstRefusal}
use Rattle.rg_hints.specs.Placed.{text_of, AreFrom}
use Rattle.rg_hints.proofs.proof.prove_each.Given as goal

-- the conditions so far are proved, so the rest decides
abbrev pub invariant-loop-left : goal.invariant-loop-left
invariant-loop-left l = record {
  count : l.number + length l.left ≡ 1 + length l.conditions;
  from : AreFrom l.number (drop l.place l.sections);
  same : (k : ℕ) → l.number ≤ k → section_for (map text_of l.sections) k ≡ section_for (map text_of (drop l.place l.sections)) k;
  proved : AllProvedFrom (map text_of l.sections) l.number (map condition_tree l.left) → AllProvedFrom (map text_of l.sections) 1 (map condition_tree l.conditions);
  back : AllProvedFrom (map text_of l.sections) 1 (map condition_tree l.conditions) → AllProvedFrom (map text_of l.sections) l.number (map condition_tree l.left);
  holds : AllConditionsHold (map condition_tree l.left) → AllConditionsHold (map condition_tree l.conditions);
  refused : (e : Refusal) → IsFirstRefusal (map text_of l.sections) l.number (map condition_tree l.left) e → IsFirstRefusal (map text_of l.sections) 1 (map condition_tree l.conditions) e;
}

abbrev pub decreases-loop-left : goal.decreases-loop-left
decreases-loop-left l = length l.left
