use Rattle.std.proofs.Common.{◌≡◌, ◌++◌, map, drop}
use Rattle.std.specs.String.{string_bytes}
use Rattle.rg_tree.specs.View.{formula}
use Rattle.rg_smt.specs.Scripts.{assertions}
use Rattle.rg_smt.specs.Inner.View.{reading}
use Rattle.rg_smt.proofs.scripts.push_assertions.Given as goal

-- those so far, and those of the rest
abbrev pub invariant-loop-f : goal.invariant-loop-f
invariant-loop-f l =
    string_bytes l.text ++ assertions l.layout (reading l.moment) (map formula (drop l.f-index l.hypotheses))
    ≡ string_bytes l.initial.text ++ assertions l.layout (reading l.moment) (map formula l.hypotheses)
