-- Assignments that together are one store to an item of an array, as if (E == 0) { slot[0] = V; } and if (E == 1) { slot[1] = V; }, which are slot[E] = V where E is below 2.
use Rattle.std.specs.Prelude.{◌≡◌, ℕ, zero, suc, ◌+◌, ◌-◌, ◌<◌, Bool, true, false, not, ◌&&◌, ◌||◌, cond, nat_eq, nat_lt, List, [], ◌∷◌, length, take, Option, Some, None, if◌then◌else◌}
use Rattle.std.specs.List.{list_all, list_any, range_with_len}
use Rattle.std.specs.Option.{option_map_or}
use Rattle.rg_words.specs.Layout.{Word}
use Rattle.rg_words.specs.States.{IsState}
use Rattle.rg_c_plan.specs.declared.kind.Kind.{Kind}
use Rattle.rg_c_values.specs.declared.print.Read.{Read}
use Rattle.rg_c_values.specs.declared.print.Read.TheVariants.{Plain, Load, Local}
use Rattle.rg_c_values.specs.CTrees.{CValue, CTest, c_compared}
use Rattle.rg_c_values.specs.Arithmetic.{c_value}
use Rattle.rg_c_values.specs.Arrays.{array_length}
use Rattle.rg_c_values.specs.Items.{is_value, is_at, is_below, read_of}
use Rattle.rg_c.specs.declared.tree.Target.TheVariants.{Word as ToWord}
use Rattle.rg_c.specs.CStatements.{item, CStatement, nothing, ◌⨾◌, writes, stores, each}
use Rattle.rg_c.specs.Assigned.{GivenTree, is_stored, assigned_to}
use Rattle.rg_c.specs.Used.{value_reads}
use Rattle.rg_c.specs.Meaning.{Machine, sees, run}

-- what is given to an item of an array: the index, the array's first word, and the value
pub record ItemTree : Type 0 where
  pub index : CValue
  pub first : ℕ
  pub value : CValue

-- it is given, by a store where the array's first word is stored, else plainly
abbrev pub item_given : List Kind → ItemTree → CStatement
item_given kinds it = if is_stored kinds it.first then stores (item it.first it.index) it.value else writes (item it.first it.index) it.value

-- what the first of such assignments tells, by its test
abbrev pub told_by : CTest → ℕ → CValue → Option ItemTree
told_by (c_compared c e u) k v = Some (record { index = e; first = k; value = v })
told_by t k v = None

abbrev pub item_of : GivenTree → Option ItemTree
item_of g = option_map_or (λ t. told_by t g.word g.value) g.test None

-- an assignment gives the i-th item the value where the index is i, in the same way
abbrev pub gives_at : List Kind → ItemTree → ℕ → GivenTree → Bool
gives_at kinds it i g =
    option_map_or (is_at it.index i) g.test false
    && (cond (is_stored kinds it.first) (is_stored kinds g.word) (not (is_stored kinds g.word)) && (nat_eq g.word (it.first + i) && is_value it.value g.value))

-- the first assignments do so for each item from the i-th one up to the n-th
abbrev pub gives_from : List Kind → ItemTree → ℕ → ℕ → List GivenTree → Bool
gives_from kinds it n i [] = nat_eq i n
gives_from kinds it n i (g ∷ gs) = nat_eq i n || (gives_at kinds it i g && gives_from kinds it n (i + 1) gs)

-- the index reads none of n items
abbrev pub is_apart : ItemTree → ℕ → Bool
is_apart it n = list_all (λ i. not (value_reads (it.first + i) it.index)) (range_with_len 0 n)

-- the first assignments are this: they give all items the value, by an index that is seen to be within the array
abbrev pub is_together : List Word → List Kind → List GivenTree → ItemTree → Bool
is_together words kinds gs it =
    let n = array_length words it.first in
    (nat_lt 1 n && is_below words n it.index) && (is_apart it n && gives_from kinds it n 0 gs)

-- what the first assignments are together, if they are that
abbrev pub together : List Word → List Kind → List GivenTree → Option ItemTree
together words kinds [] = None
together words kinds (g ∷ gs) =
    option_map_or (λ (it : ItemTree). if nat_lt it.first (length words) && is_together words kinds (g ∷ gs) it then Some it else None) (item_of g) None

-- assignments to words, one after another, of which the first n are left out: they are part of a store that is done already
abbrev pub all_given : List Word → List Kind → ℕ → List GivenTree → CStatement
all_given words kinds n [] = nothing
all_given words kinds (suc n) (g ∷ gs) = all_given words kinds n gs
all_given words kinds zero (g ∷ gs) =
    option_map_or (λ (it : ItemTree). item_given kinds it ⨾ all_given words kinds (array_length words it.first - 1) gs) (together words kinds (g ∷ gs))
    (assigned_to kinds ToWord g ⨾ all_given words kinds 0 gs)

-- one of the words that are assigned is read from a local
abbrev pub is_local : Read → Bool
is_local Local = true
is_local read = false

abbrev pub has_local : List Read → List GivenTree → Bool
has_local reads gs = list_any (λ (g : GivenTree). is_local (read_of reads g.word)) gs

-- done at once, what assignments are together does what they do, and at an index within the array, as long as their words aren't read from locals
abbrev pub StoresAreTogether : Type 0
StoresAreTogether =
    (words : List Word) (kinds : List Kind) (reads : List Read) (m : Machine) → IsState words (sees reads m) →
    (gs : List GivenTree) (it : ItemTree) → together words kinds gs ≡ Some it → let n = array_length words it.first in has_local reads (take n gs) ≡ false →
    (c_value it.index (sees reads m) < n) × (run words reads (item_given kinds it) m ≡ run words reads (each (assigned_to kinds ToWord) (take n gs)) m)
