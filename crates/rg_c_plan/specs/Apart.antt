-- Words at which the assertions of a derivation keep the parts of a program apart. Why it is so is said elsewhere.
use Rattle.std.specs.Prelude.{ℕ, Bool, true, false, not, ◌&&◌, nat_eq, List, [], ◌∷◌, get_or, Option, None, if◌then◌else◌}
use Rattle.std.specs.List.{list_any, find}
use Rattle.std.specs.Option.{option_map_or}
use Rattle.rg_tree.specs.Trees.{Proposition, Assignment}
use Rattle.rg_tree.specs.Statements.{ProgramTree}
use Rattle.rg_c_plan.specs.Accesses.{touches, world_access, accesses, meet, some_meet, places}
use Rattle.rg_c_plan.specs.Ways.{kind_at, first_exposed, way_of}
use Rattle.rg_c_plan.specs.declared.kind.Kind.{Kind}
use Rattle.rg_c_plan.specs.declared.kind.Kind.TheVariants.{Apart}
use Rattle.rg_c_plan.specs.declared.way.Way.{Way}
use Rattle.rg_c_plan.specs.declared.way.Way.TheVariants.{Store}

-- the assertions keep the parts apart at a word, as these flags say; at one without a flag they don't
abbrev pub is_apart : List Bool → ℕ → Bool
is_apart apart k = get_or apart k false

-- the world outside writes a word, or meets a part at it
abbrev pub world_meets : ProgramTree → ℕ → Bool
world_meets p k = list_any (meet (world_access k p.words p.spec.rely)) (accesses p k)

-- the assertions may keep parts apart at a word: some meet there, and the world outside meets none
abbrev pub may_be_apart : ProgramTree → ℕ → Bool
may_be_apart p k = some_meet (accesses p k) && not (world_meets p k)

-- a step is done by a store
abbrev pub is_store : Way → Bool
is_store (Store k) = true
is_store way = false

-- the last of these assignments is to this word; where there is none, it is as it was before
abbrev pub ends_with : ℕ → Bool → List Assignment → Bool
ends_with k before [] = before
ends_with k before (a ∷ act) = ends_with k (nat_eq k a.target) act

-- a step does all that it does plainly before another part can see that it is made: it makes no atomic access, or one store, and nothing after it
abbrev pub is_early : List Kind → Option Proposition → List Assignment → Bool
is_early kinds guard act = option_map_or (λ k. is_store (way_of kinds guard act) && ends_with k false act) (first_exposed kinds guard act) true

-- the kind is this one
abbrev pub is_apart_kind : Kind → Bool
is_apart_kind Apart = true
is_apart_kind kind = false

-- the first word that a step touches at which parts are kept apart
abbrev pub apart_word : List Kind → Option Proposition → List Assignment → Option ℕ
apart_word kinds guard act = find (λ k. is_apart_kind (kind_at kinds k) && touches k guard act) (places kinds)

-- the same of a step that isn't early
abbrev pub late_word : List Kind → Option Proposition → List Assignment → Option ℕ
late_word kinds guard act = if is_early kinds guard act then None else apart_word kinds guard act
