use Rattle.std.proofs.Common.{ℕ, ◌<◌, ◌≤◌, ◌-◌, length, get_or}
use Rattle.rg_hint_lines.specs.declared.lines.Head.{Head}
use Rattle.rg_hint_lines.proofs.lines.search_head.Given as goal

abbrev pub invariant-loop-low : goal.invariant-loop-low
invariant-loop-low l = record {
  order : l.low ≤ l.high;
  bound : l.high ≤ length l.heads;
  below : (k : ℕ) (d : Head) → k < l.low → (get_or l.heads k d).id < l.id;
  above : (k : ℕ) (d : Head) → l.high ≤ k → k < length l.heads → l.id < (get_or l.heads k d).id;
}

abbrev pub decreases-loop-low : goal.decreases-loop-low
decreases-loop-low l = l.high - l.low
