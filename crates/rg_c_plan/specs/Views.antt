-- The kinds of words as a part sees them.
use Rattle.std.specs.Prelude.{ℕ, ◌+◌, Bool, false, ◌&&◌, List, [], ◌∷◌, map, get_or, Option, if◌then◌else◌}
use Rattle.std.specs.List.{list_any}
use Rattle.rg_tree.specs.Statements.{PartTree, ProgramTree}
use Rattle.rg_c_plan.specs.Accesses.{StepTree, steps, accesses, is_touched, places}
use Rattle.rg_c_plan.specs.Ways.{kind_at}
use Rattle.rg_c_plan.specs.Orders.{may_act}
use Rattle.rg_c_plan.specs.declared.access.Access.{Access}
use Rattle.rg_c_plan.specs.declared.order.Rank.{Rank}
use Rattle.rg_c_plan.specs.declared.kind.Kind.{Kind}
use Rattle.rg_c_plan.specs.declared.kind.Kind.TheVariants.{Fixed, Own, Apart, Published, Sheltered, Atomic, Guarded}

abbrev pub no_access : Access
no_access = record { reads = false; writes = false }

-- of these parties, of which the first is the world outside, how those access a word that may act while the i-th part makes a step: some reads it, some writes it
abbrev pub access_meanwhile : List (Option Rank) → ℕ → List Access → Access
access_meanwhile order i as_ = record {
  reads = list_any (λ j. may_act order i j && (get_or as_ j no_access).reads) (places as_);
  writes = list_any (λ j. may_act order i j && (get_or as_ j no_access).writes) (places as_);
}

-- and of a program's parties
abbrev pub others_access : ProgramTree → List (Option Rank) → ℕ → ℕ → Access
others_access p order i k = access_meanwhile order i (accesses p k)

-- a word of this kind to a part, during whose steps others may access it so: an atomic word that they don't write is published by the part, and one that they don't
-- touch is sheltered; a guarded word that they don't touch is the part's own
abbrev pub seen_kind : Kind → Access → Kind
seen_kind Fixed others = Fixed
seen_kind Own others = Own
seen_kind Apart others = Apart
seen_kind Published others = Published
seen_kind Sheltered others = Sheltered
seen_kind Atomic others = if others.writes then Atomic else if others.reads then Published else Sheltered
seen_kind Guarded others = if is_touched others then Guarded else Own

-- the kinds of words as the i-th part sees them
abbrev pub kinds_for : ProgramTree → List (Option Rank) → List Kind → ℕ → List Kind
kinds_for p order kinds i = map (λ k. seen_kind (kind_at kinds k) (others_access p order i k)) (places p.words)

-- a part's steps, and the kinds of words as it sees them
pub record ViewTree : Type 0 where
  pub kinds : List Kind
  pub steps : List StepTree

-- those of these parts, from the i-th one on
abbrev pub views_from : ProgramTree → List (Option Rank) → List Kind → ℕ → List PartTree → List ViewTree
views_from p order kinds i [] = []
views_from p order kinds i (part ∷ parts) = record { kinds = kinds_for p order kinds i; steps = steps part.body } ∷ views_from p order kinds (i + 1) parts

abbrev pub views : ProgramTree → List (Option Rank) → List Kind → List ViewTree
views p order kinds = views_from p order kinds 0 p.parts
