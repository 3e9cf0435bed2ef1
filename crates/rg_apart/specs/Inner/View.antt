-- Visits of the code, without where they lie in memory.
use Rattle.std.specs.Prelude.{ℕ, List, [], ◌∷◌}
use Rattle.rg_tree.specs.View.{formula}
use Rattle.rg_tree.specs.Typing.{IsTyped}
use Rattle.rg_apart.specs.Conditions.{VisitTree}
use Rattle.rg_apart.specs.declared.visits.Visit.{Visit}

-- a visit
abbrev pub visit : Visit → VisitTree
visit v = record { part = v.part; pre = formula v.pre.now; site = formula v.site; writes = v.writes }

-- its formulas are of one width each
abbrev pub IsTypedVisit : List ℕ → VisitTree → Type 0
IsTypedVisit widths v = IsTyped widths v.pre × IsTyped widths v.site

-- those of each
abbrev pub AreTypedVisits : List ℕ → List VisitTree → Type 0
AreTypedVisits widths [] = Unit {0}
AreTypedVisits widths (v ∷ vs) = IsTypedVisit widths v × AreTypedVisits widths vs
