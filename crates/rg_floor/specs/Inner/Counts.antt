-- How many changes one made.
use Rattle.std.specs.Prelude.{ℕ, ◌+◌, ◌==◌, List, [], ◌∷◌, if◌then◌else◌}
use Rattle.rg_floor.specs.Changes.{Changing}

abbrev pub made_by : ℕ → List Changing → ℕ
made_by who [] = 0
made_by who (c ∷ cs) = (if c.who == who then 1 else 0) + made_by who cs
