-- What a legal floor means.
use Rattle.std.specs.Prelude.{◌≡◌, ◌≢◌, ℕ, ◌==◌, true, List, Some, slice_get}
use Rattle.std.specs.List.{list_any}
use Rattle.rg_tree.specs.Statements.{ProgramTree}
use Rattle.rg_tree.specs.Traces.{State, holds_at}
use Rattle.rg_code.specs.Code.{BlockTree, IsCodeRun, all_at_end}
use Rattle.rg_monitor.specs.Entry.{Entry}
use Rattle.rg_floor.specs.History.{FloorView, IsLegal, steps_of}

-- the steps of a legal floor are a run of the code, which has ended where each place is an end
abbrev pub HistoriesAreRuns : Type 0
HistoriesAreRuns =
    (p : ProgramTree) (codes : List (List BlockTree)) (start : State) (limit : ℕ) (f : FloorView) → IsLegal p codes start limit f
    → IsCodeRun p.words codes start (steps_of f.history) (all_at_end codes f.places)

-- each recorded step of a part has this part in its cover
abbrev pub StepsAreCovered : Type 0
StepsAreCovered =
    (p : ProgramTree) (codes : List (List BlockTree)) (start : State) (limit : ℕ) (f : FloorView) → IsLegal p codes start limit f
    → (k : ℕ) (r : Entry) → slice_get f.history k ≡ Some r → r.who ≢ 0 → list_any (λ j. j == r.who) r.cover ≡ true

-- a floor whose parts are all at their ends has its words in the post
abbrev pub EndsAreInPost : Type 0
EndsAreInPost =
    (p : ProgramTree) (codes : List (List BlockTree)) (start : State) (limit : ℕ) (f : FloorView) → IsLegal p codes start limit f
    → all_at_end codes f.places ≡ true → holds_at p.spec.post f.words ≡ true
