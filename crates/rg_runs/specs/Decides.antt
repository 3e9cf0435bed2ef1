-- What a judge of runs says.
use Rattle.std.specs.Prelude.{◌≡◌, Bool, List, Option, Some, ◌↔◌}
use Rattle.rg_tree.specs.Statements.{ProgramTree}
use Rattle.rg_tree.specs.Traces.{State, Step}
use Rattle.rg_tree.specs.Programs.{IsRun}

-- the answer has a flag exactly where the trace is a run of the program with that flag
abbrev pub Decides : ProgramTree → State → List Step → Option Bool → Type 0
Decides program s xs answer = (ended : Bool) → (answer ≡ Some ended) ↔ IsRun program s xs ended
