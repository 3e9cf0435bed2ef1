-- The choice of a kind for each word.
use Rattle.std.specs.Prelude.{ℕ, Bool, not, ◌&&◌, List, [], ◌∷◌, map, Option, Some, None, option_map, if◌then◌else◌}
use Rattle.std.specs.List.{list_any}
use Rattle.std.specs.Option.{option_map_or}
use Rattle.rg_tree.specs.Statements.{ProgramTree}
use Rattle.rg_c_plan.specs.Accesses.{StepTree, accesses, world_access, is_fixed, is_touched, some_meet, places}
use Rattle.rg_c_plan.specs.Apart.{is_apart, may_be_apart, late_word}
use Rattle.rg_c_plan.specs.Ways.{exposes, first_exposed}
use Rattle.rg_c_plan.specs.Once.{is_one_access}
use Rattle.rg_c_plan.specs.Orders.{waiting}
use Rattle.rg_c_plan.specs.Views.{ViewTree, views}
use Rattle.rg_c_plan.specs.declared.kind.Kind.{Kind}
use Rattle.rg_c_plan.specs.declared.kind.Kind.TheVariants.{Fixed, Own, Apart, Atomic, Guarded}
use Rattle.rg_c_plan.specs.declared.order.Rank.{Rank}
use Rattle.rg_c_plan.specs.declared.planned.Unplanned.{Unplanned}
use Rattle.rg_c_plan.specs.declared.planned.Unplanned.TheVariants.{Step, Wait}

-- the kind of a word where no step were in a section, and the assertions keep the parts apart as these flags say: fixed; apart, where they do, and only parts meet at
-- it; own, where no two parties meet at it; else atomic
abbrev pub bare_kind : ProgramTree → List Bool → ℕ → Kind
bare_kind p apart k =
    if is_fixed p.words k then Fixed else if is_apart apart k && may_be_apart p k then Apart
    else if not (some_meet (accesses p k)) then Own else Atomic

abbrev pub bare_kinds : ProgramTree → List Bool → List Kind
bare_kinds p apart = map (bare_kind p apart) (places p.words)

-- a step needs a section for a word: it exposes it, and isn't one access
abbrev pub crowds : List Kind → ℕ → StepTree → Bool
crowds kinds k s = exposes kinds s.guard s.act k && not (is_one_access kinds s.guard s.act)

-- some step of these parts does
abbrev pub is_crowded : List ViewTree → ℕ → Bool
is_crowded vs k = list_any (λ (v : ViewTree). list_any (crowds v.kinds k) v.steps) vs

-- a word of this bare kind, beside these parts: guarded, where some step needs a section for it, and the world outside doesn't touch it
abbrev pub kind_among : ProgramTree → List ViewTree → Kind → ℕ → Kind
kind_among p vs Atomic k = if not (is_touched (world_access k p.words p.spec.rely)) && is_crowded vs k then Guarded else Atomic
kind_among p vs kind k = kind

-- the kind of a word
abbrev pub kind_of : ProgramTree → List (Option Rank) → List Bool → ℕ → Kind
kind_of p order apart k = kind_among p (views p order (bare_kinds p apart)) (bare_kind p apart k) k

-- the kind of each word
abbrev pub kinds_of : ProgramTree → List (Option Rank) → List Bool → List Kind
kinds_of p order apart = map (kind_of p order apart) (places p.words)

-- a step that isn't one access, and the first word that it exposes
abbrev pub failed : List Kind → StepTree → Unplanned
failed kinds s = Step s.line (option_map_or (λ k. k) (first_exposed kinds s.guard s.act) 0)

-- a step that isn't early, and this word, at which parts are kept apart
abbrev pub late : StepTree → ℕ → Unplanned
late s k = Step s.line k

-- why a step can't be done at once: it isn't one access; or it touches a word at which parts are kept apart, and isn't early
abbrev pub step_fault : List Kind → StepTree → Option Unplanned
step_fault kinds s = if is_one_access kinds s.guard s.act then option_map (late s) (late_word kinds s.guard s.act) else Some (failed kinds s)

-- the first of these steps that can't
abbrev pub failing_step : List Kind → List StepTree → Option Unplanned
failing_step kinds [] = None
failing_step kinds (s ∷ ss) = option_map_or (λ u. Some u) (step_fault kinds s) (failing_step kinds ss)

-- the first one of these parts
abbrev pub failing : List ViewTree → Option Unplanned
failing [] = None
failing (v ∷ vs) = option_map_or (λ u. Some u) (failing_step v.kinds v.steps) (failing vs)

-- why there is no C of this form for a program whose parts interrupt each other so, where the assertions keep them apart as these flags say: one that interrupts another
-- may wait; or the first step that isn't done at once
abbrev pub unplanned : ProgramTree → List (Option Rank) → List Bool → Option Unplanned
unplanned p order apart = option_map_or (λ row. Some (Wait row)) (waiting p order) (failing (views p order (kinds_of p order apart)))
