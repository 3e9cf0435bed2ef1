use Rattle.std.proofs.Common.{◌≡◌, ◌++◌, [], map, take, drop}
use Rattle.std.specs.String.{string_bytes}
use Rattle.rg_tree.specs.ConditionTrees.{assignment}
use Rattle.rg_smt.specs.Scripts.{definitions}
use Rattle.rg_smt.proofs.scripts.push_definitions.Given as goal

-- those so far, and those of the rest
abbrev pub invariant-loop-place : goal.invariant-loop-place
invariant-loop-place l =
    string_bytes l.text ++ definitions l.layout (map assignment (take l.place l.act)) (map assignment (drop l.place l.act))
    ≡ string_bytes l.initial.text ++ definitions l.layout [] (map assignment l.act)
