-- Entries that are gathered, and given in the order of their numbers.
use Rattle.std.specs.Prelude.{◌≡◌, ℕ, ◌+◌, ◌<◌, ◌≤◌, ◌^◌, ◌⊎◌, List, Option, Some, None, IfSome, IsSome}
use Rattle.std.specs.Map.{lookup, remove_entry}
use Rattle.std.specs.BTreeMap.{is_at, insert_entry}
use Rattle.std.specs.Ordering.{nat_cmp}
use Rattle.rg_monitor.specs.Entry.{Entry}

-- how many were given, which are those numbered from 1 up to that; and those that wait, by number
pub record Gathered : Type 0 where
  pub given : ℕ
  pub waiting : List (ℕ × Entry)

-- the entry of this number, where it waits
abbrev pub waiting_at : Gathered → ℕ → Option Entry
waiting_at g n = lookup (is_at (nat_cmp n)) g.waiting

-- an entry of this number was taken before: it was given, or it waits
abbrev pub WasTaken : Gathered → ℕ → Type 0
WasTaken g n = ((0 < n) × (n ≤ g.given)) ⊎ IsSome (waiting_at g n)

-- one more waits
abbrev pub with_entry : Gathered → Entry → Gathered
with_entry g r = record { given = g.given; waiting = insert_entry nat_cmp g.waiting r.number r }

-- the entry of the next number is given exactly where it waits, and waits no more; all others stay
abbrev pub Gives : Gathered → Option Entry → Gathered → Type 0
Gives g None h = (waiting_at g (g.given + 1) ≡ None) × (h ≡ g)
Gives g (Some r) h =
    (waiting_at g (g.given + 1) ≡ Some r) × (r.number ≡ g.given + 1)
    × (h ≡ record { given = g.given + 1; waiting = remove_entry (is_at (nat_cmp (g.given + 1))) g.waiting })

-- each waits under its own number, which has 64 bits
abbrev pub UnderNumbers : List (ℕ × Entry) → Type 0
UnderNumbers es = (n : ℕ) → IfSome (lookup (is_at (nat_cmp n)) es) (λ r. (r.number ≡ n) × (n < 2 ^ 64))
