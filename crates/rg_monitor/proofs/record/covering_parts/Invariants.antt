use Rattle.std.proofs.Common.{◌≡◌, ◌++◌, suc, map, drop}
use Rattle.rg_tree.specs.ProgramView.{part}
use Rattle.rg_monitor.specs.Entry.{covering}
use Rattle.rg_monitor.proofs.record.covering_parts.Given as goal

-- what was found, and what the rest will add, is the whole
abbrev pub invariant-loop-i : goal.invariant-loop-i
invariant-loop-i l =
    l.numbers.items ++ covering (suc l.i) (map part (drop l.i l.parts)) l.before.values l.after.values ≡ covering 1 (map part l.parts) l.before.values l.after.values
