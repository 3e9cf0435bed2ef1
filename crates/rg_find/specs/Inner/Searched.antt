-- What the search answers before it is checked.
use Rattle.std.specs.Prelude.{◌≡◌, length}
use Rattle.rg_clauses.specs.ClauseLists.{Cnf}
use Rattle.rg_find.specs.declared.answer.Found.{Found}
use Rattle.rg_find.specs.declared.answer.Found.TheVariants.{Lines, Values, GaveUp, TooLarge}

-- lines are over as many given clauses as the formula has
abbrev pub IsOver : Cnf → Found → Type 0
IsOver f (Lines lines) = lines.given ≡ length f.clauses
IsOver f (Values values) = Unit {0}
IsOver f GaveUp = Unit {0}
IsOver f TooLarge = Unit {0}
