-- How a step is done in C, by the kinds of its words.
use Rattle.std.specs.Prelude.{ℕ, Bool, true, false, not, ◌&&◌, ◌||◌, nat_eq, List, length, get_or, Option, if◌then◌else◌}
use Rattle.std.specs.List.{filter, find, list_any}
use Rattle.std.specs.Option.{option_map_or}
use Rattle.rg_tree.specs.Trees.{Proposition, Assignment}
use Rattle.rg_c_plan.specs.Accesses.{reads, writes, touches, places}
use Rattle.rg_c_plan.specs.declared.kind.Kind.{Kind}
use Rattle.rg_c_plan.specs.declared.kind.Kind.TheVariants.{Own, Published, Sheltered, Atomic, Guarded}
use Rattle.rg_c_plan.specs.declared.way.Way.{Way}
use Rattle.rg_c_plan.specs.declared.way.Way.TheVariants.{Direct, Load, Store, Exchange, Select, Section}

-- the kind of a word; one without a kind is plain
abbrev pub kind_at : List Kind → ℕ → Kind
kind_at kinds k = get_or kinds k Own

-- the kind is this one
abbrev pub is_published : Kind → Bool
is_published Published = true
is_published kind = false

abbrev pub is_atomic : Kind → Bool
is_atomic Atomic = true
is_atomic kind = false

abbrev pub is_guarded : Kind → Bool
is_guarded Guarded = true
is_guarded kind = false

abbrev pub is_sheltered : Kind → Bool
is_sheltered Sheltered = true
is_sheltered kind = false

-- a write to a word of this kind may meet another party outside of sections
abbrev pub is_shared : Kind → Bool
is_shared kind = is_atomic kind || is_published kind

-- each access to a word of this kind is atomic
abbrev pub has_atomic_accesses : Kind → Bool
has_atomic_accesses kind = is_shared kind || is_sheltered kind

-- a step may meet another party at a word outside of sections: it touches an atomic word, or writes one that its part publishes
abbrev pub exposes : List Kind → Option Proposition → List Assignment → ℕ → Bool
exposes kinds guard act k = (is_atomic (kind_at kinds k) && touches k guard act) || (is_published (kind_at kinds k) && writes k act)

-- a step touches a guarded word
abbrev pub touches_guarded : List Kind → Option Proposition → List Assignment → ℕ → Bool
touches_guarded kinds guard act k = is_guarded (kind_at kinds k) && touches k guard act

-- how often a word is assigned
abbrev pub times_assigned : ℕ → List Assignment → ℕ
times_assigned k act = length (filter (λ a. nat_eq k a.target) act)

-- how a step is done that is exposed at this word alone: the word is stored, where it is assigned once and not read, or read by the part that publishes it; loaded,
-- where it isn't written; else exchanged
abbrev pub way_at : List Kind → Option Proposition → List Assignment → ℕ → Way
way_at kinds guard act k =
    if not (is_atomic (kind_at kinds k) && reads k guard act) && nat_eq (times_assigned k act) 1 then Store k
    else if not (writes k act) then Load k
    else Exchange k

-- a step exposes another word than this one
abbrev pub exposes_another : List Kind → Option Proposition → List Assignment → ℕ → Bool
exposes_another kinds guard act k = list_any (λ j. not (nat_eq j k) && exposes kinds guard act j) (places kinds)

-- the first word that a step exposes
abbrev pub first_exposed : List Kind → Option Proposition → List Assignment → Option ℕ
first_exposed kinds guard act = find (exposes kinds guard act) (places kinds)

-- a step is in a section: it touches a guarded word
abbrev pub in_section : List Kind → Option Proposition → List Assignment → Bool
in_section kinds guard act = list_any (touches_guarded kinds guard act) (places kinds)

-- how a step is done outside of sections whose first exposed word is this one: by one of several accesses, where it exposes another one too
abbrev pub way_from : List Kind → Option Proposition → List Assignment → ℕ → Way
way_from kinds guard act k = if exposes_another kinds guard act k then Select else way_at kinds guard act k

-- how a step is done: in a section, where it touches a guarded word; else by the words that it exposes, and directly where it exposes none
abbrev pub way_of : List Kind → Option Proposition → List Assignment → Way
way_of kinds guard act = if in_section kinds guard act then Section else option_map_or (way_from kinds guard act) (first_exposed kinds guard act) Direct

-- a step may meet others at a word: it exposes it, or touches it in a section
abbrev pub meets_at : List Kind → Option Proposition → List Assignment → ℕ → Bool
meets_at kinds guard act k = exposes kinds guard act k || touches_guarded kinds guard act k

-- the words at which it may meet others, in the order of declaration
abbrev pub met_words : List Kind → Option Proposition → List Assignment → List ℕ
met_words kinds guard act = filter (meets_at kinds guard act) (places kinds)
