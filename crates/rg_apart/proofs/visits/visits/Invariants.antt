use Rattle.std.proofs.Common.{◌≡◌, ◌++◌, map, drop}
use Rattle.rg_tree.specs.Lines.{line_tree}
use Rattle.rg_c_plan.specs.View.{step}
use Rattle.rg_apart.specs.Conditions.{visits}
use Rattle.rg_apart.specs.Inner.View.{visit}
use Rattle.rg_apart.proofs.visits.visits.Given as goal

-- those so far, and the rest
abbrev pub invariant-loop-i : goal.invariant-loop-i
invariant-loop-i l =
    map visit l.list.items ++ visits l.old l.word (map line_tree l.lines) (map step (drop l.i l.steps)) (drop l.i l.numbers)
    ≡ visits l.old l.word (map line_tree l.lines) (map step l.steps) l.numbers
