use Rattle.std.proofs.Common.{◌≡◌, ◌-◌, [], length, map}
use Rattle.rg_tree.specs.View.{formula}
use Rattle.rg_tree.specs.Moves.{move}
use Rattle.rg_floor.specs.Inner.Walking.{GoesPast}
use Rattle.rg_floor.proofs.walk.take_passed.Given as goal

-- the entries that were met are those of moves that are refused here
abbrev pub invariant-loop-walk : goal.invariant-loop-walk
invariant-loop-walk l = record {
  goes : GoesPast (formula l.program.spec.rely) l.limit (map move l.moves) l.passed l.fn.walk l.walk [];
  config : l.walk.config ≡ l.fn.walk.config;
}

abbrev pub decreases-loop-walk : goal.decreases-loop-walk
decreases-loop-walk l = length l.passed - l.walk.passed
