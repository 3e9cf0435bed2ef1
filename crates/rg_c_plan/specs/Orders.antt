-- Which parts run on one core, and which of them interrupt which.
use Rattle.std.specs.Prelude.{ℕ, ◌+◌, ◌-◌, Bool, false, not, ◌&&◌, ◌||◌, nat_eq, nat_lt, List, [], ◌∷◌, length, get_or, Option, Some, None, if◌then◌else◌}
use Rattle.std.specs.List.{list_any, range_with_len}
use Rattle.std.specs.Option.{option_map_or}
use Rattle.rg_tree.specs.Trees.{Proposition, truth, negation, connected, compared}
use Rattle.rg_tree.specs.Statements.{Statement, skip, assign, await, sequence, branch, loop, Items, one, more, PartTree, ProgramTree}
use Rattle.rg_c_plan.specs.declared.order.Rank.{Rank}

-- the rank of the i-th part, if it has one; a part without a rank has a core of its own
abbrev pub rank_of : List (Option Rank) → ℕ → Option Rank
rank_of order i = get_or order i None

-- a part of the one rank interrupts a part of the other: both run on one core, and its place there is the earlier one
abbrev pub is_above : Option Rank → Option Rank → Bool
is_above (Some a) (Some b) = nat_eq a.core b.core && nat_lt a.place b.place
is_above a b = false

-- the i-th part interrupts the j-th, which stands still until it has ended
abbrev pub interrupts : List (Option Rank) → ℕ → ℕ → Bool
interrupts order i j = is_above (rank_of order i) (rank_of order j)

-- a party may act while the i-th part makes a step: the world outside, which is at place 0; or the part at the place after its own, which is another one that the i-th
-- doesn't interrupt
abbrev pub may_act : List (Option Rank) → ℕ → ℕ → Bool
may_act order i j = nat_eq j 0 || (not (nat_eq (j - 1) i) && not (interrupts order i (j - 1)))

-- the formula is the constant true
abbrev pub is_always : Proposition → Bool
is_always (truth b) = b
is_always (negation f) = false
is_always (connected c f g) = false
is_always (compared c a b) = false

-- the line of the first await of a statement whose formula isn't the constant true, if there is one
abbrev mutual
  pub first_wait : Statement → Option ℕ
  first_wait (skip row) = None
  first_wait (assign row a) = None
  first_wait (await row b act) = if is_always b then None else Some row
  first_wait (sequence row s items) = option_map_or (λ n. Some n) (first_wait s) (first_wait_of items)
  first_wait (branch row b s t) = option_map_or (λ n. Some n) (first_wait s) (first_wait t)
  first_wait (loop row b s) = first_wait s

  pub first_wait_of : Items → Option ℕ
  first_wait_of (one s) = first_wait s
  first_wait_of (more s items) = option_map_or (λ n. Some n) (first_wait s) (first_wait_of items)

-- the i-th of n parts interrupts another one
abbrev pub is_handler : List (Option Rank) → ℕ → ℕ → Bool
is_handler order n i = list_any (interrupts order i) (range_with_len 0 n)

-- of the parts from the i-th one on, of n parts, the line of the first await that may wait in one that interrupts another
abbrev pub waiting_from : List (Option Rank) → ℕ → ℕ → List PartTree → Option ℕ
waiting_from order n i [] = None
waiting_from order n i (part ∷ parts) =
    option_map_or (λ row. Some row) (if is_handler order n i then first_wait part.body else None) (waiting_from order n (i + 1) parts)

-- and of all parts
abbrev pub waiting : ProgramTree → List (Option Rank) → Option ℕ
waiting p order = waiting_from order (length p.parts) 0 p.parts
