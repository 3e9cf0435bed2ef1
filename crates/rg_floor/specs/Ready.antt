-- Who can step: tests on the code and the places.
use Rattle.std.specs.Prelude.{◌≡◌, ◌↔◌, ℕ, ◌-◌, Bool, true, false, ◌&&◌, ◌||◌, ◌==◌, List, [], ◌∷◌, Option, Some, None, is_some, slice_get, slice_index, slice_index_or, if◌then◌else◌}
use Rattle.rg_tree.specs.Traces.{State}
use Rattle.rg_code.specs.Operations.{reported_by}
use Rattle.rg_code.specs.Code.{BlockTree, do_block, await_block, test_block, end_block, stored}
use Rattle.rg_machine.specs.Machine.{CanLead, line_of}

-- the block at which a part stands; parts are numbered from 1
abbrev pub block_at : List (List BlockTree) → List ℕ → ℕ → Option BlockTree
block_at codes places who = slice_get (slice_index_or codes (who - 1) []) (slice_index places (who - 1))

-- the line of a step: of the block at which the part stands; 0 for the environment
abbrev pub line_at : List (List BlockTree) → List ℕ → ℕ → ℕ
line_at codes places who = if who == 0 then 0 else line_of (block_at codes places who)

-- a guard that holds
abbrev pub is_reported : Option Bool → Bool
is_reported None = false
is_reported (Some b) = b

-- whether the block can be done in this state
abbrev pub can_go : Option BlockTree → State → Bool
can_go None s = false
can_go (Some (do_block row next act)) s = is_some (stored act s)
can_go (Some (await_block row next b act)) s = is_reported (reported_by b s) && is_some (stored act s)
can_go (Some (test_block row yes_place no_place b)) s = is_some (reported_by b s)
can_go (Some end_block) s = false

-- whether some part can step
abbrev pub any_can_go : List (List BlockTree) → List ℕ → State → Bool
any_can_go (c ∷ cs) (k ∷ ks) s = can_go (slice_get c k) s || any_can_go cs ks s
any_can_go _ _ s = false

-- a block can be done exactly where it makes some step
abbrev pub ReadyMeansSteps : Type 0
ReadyMeansSteps = (b : Option BlockTree) (s : State) → (can_go b s ≡ true) ↔ CanLead b s
