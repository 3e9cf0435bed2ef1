use Rattle.std.proofs.Common.{◌≡◌, map, drop}
use Rattle.rg_tree.specs.View.{formula}
use Rattle.rg_tree.specs.Moves.{move}
use Rattle.rg_code.specs.CodeTrees.{code_blocks}
use Rattle.rg_floor.specs.Moves.{first_place, MovesStand}
use Rattle.rg_floor.specs.Inner.Walking.{RestStands}
use Rattle.rg_floor.proofs.walk.moves_stand.Given as goal

-- where the rest stands in the records that are left, all stand in all
abbrev pub invariant-loop-step : goal.invariant-loop-step
invariant-loop-step l = record {
  words : l.walk.config.words ≡ l.origin.program.now.layout;
  rest : RestStands (formula l.origin.program.now.spec.rely) l.origin.limit (map move l.moves) l.passed l.walk (drop l.step-index l.steps)
      → MovesStand (formula l.origin.program.now.spec.rely) l.origin.limit (first_place l.origin.program.now.layout (code_blocks l.origin.code.now) l.origin.start.now.values) 1 (map move l.moves) l.passed l.steps;
}
