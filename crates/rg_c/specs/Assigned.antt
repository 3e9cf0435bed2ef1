-- Assignments as C does them.
use Rattle.std.specs.Prelude.{ℕ, Bool, nat_eq, List, [], ◌∷◌, slice_index, Option, Some, None, option_map, if◌then◌else◌}
use Rattle.std.specs.List.{list_any}
use Rattle.std.specs.Option.{option_map_or}
use Rattle.rg_tree.specs.Trees.{Assignment}
use Rattle.rg_c_plan.specs.declared.kind.Kind.{Kind}
use Rattle.rg_c_plan.specs.Changes.{change_of}
use Rattle.rg_c_plan.specs.Ways.{kind_at, has_atomic_accesses}
use Rattle.rg_c_values.specs.CTrees.{CValue, CTest}
use Rattle.rg_c_values.specs.Translation.{test_in_c, stored_in_c}
use Rattle.rg_c.specs.declared.tree.Target.{Target}
use Rattle.rg_c.specs.declared.tree.Target.TheVariants.{Word, Local}
use Rattle.rg_c.specs.CStatements.{asks, member, CStatement, nothing, changes, writes, stores, when}
use Rattle.rg_c.specs.Reads.{is_load_of}

-- what an assignment does: where the test holds, if there is one, the word gets the value
pub record GivenTree : Type 0 where
  pub test : Option CTest
  pub word : ℕ
  pub value : CValue

-- an assignment over words of these widths
abbrev pub given_of : List ℕ → Assignment → GivenTree
given_of widths a =
    let c = change_of a in
    record { test = option_map (test_in_c widths) c.test; word = a.target; value = stored_in_c widths (slice_index widths a.target) c.value }

-- the word is stored: each access to it is atomic
abbrev pub is_stored : List Kind → ℕ → Bool
is_stored kinds k = has_atomic_accesses (kind_at kinds k)

-- a word, or its local, gets a value; nothing is done where it is the one that it has, except by a store
abbrev pub given : List Kind → Target → ℕ → CValue → CStatement
given kinds Word k v = if is_stored kinds k then stores (member k) v else if is_load_of k v then nothing else writes (member k) v
given kinds Local k v = if is_load_of k v then nothing else changes k v

-- an assignment to a word, or to its local
abbrev pub assigned_to : List Kind → Target → GivenTree → CStatement
assigned_to kinds to g = option_map_or (λ t. when (asks t) (given kinds to g.word g.value)) g.test (given kinds to g.word g.value)

-- a number is in a list
abbrev pub is_in : ℕ → List ℕ → Bool
is_in k ks = list_any (λ j. nat_eq k j) ks

-- the words beside these that are assigned, each once, in the order in which they are first assigned
abbrev pub targets_beside : List ℕ → List GivenTree → List ℕ
targets_beside ks [] = []
targets_beside ks (g ∷ gs) = if is_in g.word ks then targets_beside ks gs else g.word ∷ targets_beside (g.word ∷ ks) gs
