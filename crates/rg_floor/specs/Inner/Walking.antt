-- A walk along a history: what its private functions promise.
use Rattle.std.specs.Prelude.{ℕ, ◌+◌, List, [], ◌∷◌, ◌++◌, drop}
use Rattle.rg_tree.specs.Trees.{Proposition}
use Rattle.rg_tree.specs.Moves.{MoveTree}
use Rattle.rg_monitor.specs.Entry.{Entry}
use Rattle.rg_floor.specs.declared.closed.Passed.{Passed}
use Rattle.rg_floor.specs.Moves.{Place, MovesStand}
use Rattle.rg_floor.specs.declared.walk.Walk.{Walk}

-- the place to which a walk came
abbrev pub place_of : Walk → Place
place_of w = record { at = w.config; records = w.records; own = w.own }

-- the moves and the entries that the walk hasn't met stand in the records that are left
abbrev pub RestStands : Proposition → ℕ → List MoveTree → List Passed → Walk → List Entry → Type 0
RestStands rely limit moves passed w rs = MovesStand rely limit (place_of w) (w.moves + 1) (drop w.moves moves) (drop w.passed passed) rs

-- the walk went past these records: where the rest stands in what is left now, it stood in these with what is left
abbrev pub GoesPast : Proposition → ℕ → List MoveTree → List Passed → Walk → Walk → List Entry → Type 0
GoesPast rely limit moves passed v w front = (rs : List Entry) → RestStands rely limit moves passed w rs → RestStands rely limit moves passed v (front ++ rs)

-- it went past this one, whatever the rely is, and whatever entries of refused moves there are
abbrev pub GoesPastOne : ℕ → List MoveTree → Walk → Walk → Entry → Type 0
GoesPastOne limit moves v w r = (rely : Proposition) (passed : List Passed) → GoesPast rely limit moves passed v w (r ∷ [])
