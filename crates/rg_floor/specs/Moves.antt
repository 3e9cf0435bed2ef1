-- How the moves that were handed in stand in a history.
use Rattle.std.specs.Prelude.{◌≡◌, ℕ, ◌+◌, ◌<◌, ◌≤◌, ◌⊎◌, List, [], ◌∷◌, length}
use Rattle.rg_words.specs.Layout.{Word}
use Rattle.rg_words.specs.States.{AgreeOnFixed}
use Rattle.rg_words.specs.declared.refusal.RefusalNumber.{RefusalNumber}
use Rattle.rg_words.specs.declared.refusal.RefusalNumber.TheVariants.{OutsideRely, FixedMoved}
use Rattle.rg_tree.specs.Trees.{Proposition}
use Rattle.rg_tree.specs.Inside.{IsInside}
use Rattle.rg_tree.specs.Moves.{MoveTree, given}
use Rattle.rg_tree.specs.Traces.{State}
use Rattle.rg_code.specs.Code.{BlockTree, zeros}
use Rattle.rg_machine.specs.Machine.{Configuration, IsStepOf, CanStep}
use Rattle.rg_monitor.specs.Entry.{Entry}
use Rattle.rg_floor.specs.declared.closed.Passed.{Passed}

-- a place in a history: the configuration there, and how many records, and how many of them by parts, stand before it
pub record Place : Type 0 where
  pub at : Configuration
  pub records : ℕ
  pub own : ℕ

-- the place before the first record: all parts at their first blocks
abbrev pub first_place : List Word → List (List BlockTree) → State → Place
first_place words codes start =
    record { at = record { words = words; codes = codes; state = start; places = zeros codes }; records = 0; own = 0 }

-- no part can step
abbrev pub NoneCanStep : Configuration → Type 0
NoneCanStep c = (i : ℕ) → 0 < i → i ≤ length c.codes → CanStep c i → ⊥

-- a move that asks for n records before it may be made or refused here: they stand before it, or no part can step, or the limit of
-- steps by parts is reached
abbrev pub IsDue : ℕ → Place → ℕ → Type 0
IsDue limit here n = (n ≤ here.records) ⊎ NoneCanStep here.at ⊎ (here.own ≡ limit)

-- the configuration in which the words have these values
abbrev pub with_state : Configuration → State → Configuration
with_state c t = record { words = c.words; codes = c.codes; state = t; places = c.places }

-- the state that a move leads to from here: its words get its values, the others keep theirs
abbrev pub moved : Place → MoveTree → State
moved here m = given m.values here.at.state

-- why the step that a move asks for is refused here: it changes a fixed word, or it changes none and isn't inside the rely
abbrev pub IsRefusedAs : RefusalNumber → Proposition → List Word → State → State → Type 0
IsRefusedAs number rely words s t =
    ((number ≡ FixedMoved) × (AgreeOnFixed words s t → ⊥))
    ⊎ ((number ≡ OutsideRely) × AgreeOnFixed words s t × (IsInside rely s t → ⊥))

-- an entry says of the kth move that it was refused here, why, and after how many records; and so it had to be
pub record IsRefusedAt (rely : Proposition) (limit : ℕ) (here : Place) (k : ℕ) (m : MoveTree) (q : Passed) : Type 0 where
  pub number : q.number ≡ k
  pub place : q.records ≡ here.records
  pub due : IsDue limit here m.at
  pub refused : IsRefusedAs q.refusal rely here.at.words here.at.state (moved here m)

-- the place after a record that leads to this configuration: by a part, or by the environment
abbrev pub following_step : Place → Configuration → Place
following_step here d = record { at = d; records = here.records + 1; own = here.own + 1 }

abbrev pub after_move : Place → State → Place
after_move here t = record { at = with_state here.at t; records = here.records + 1; own = here.own }

-- from this place on, the moves, numbered from k, are in order and each once the records of the environment and the entries of refused
-- moves; each stands where it was due, and the record of a move made leads to the state that the move asks for
pub data MovesStand (rely : Proposition) (limit : ℕ) : Place → ℕ → List MoveTree → List Passed → List Entry → Type 0 where
  -- nothing is left
  AllStand : {here : Place} {k : ℕ} → MovesStand rely limit here k [] [] []
  -- the next record is a part's step
  ByPart : {here : Place} {k : ℕ} {ms : List MoveTree} {qs : List Passed} {rs : List Entry} (r : Entry) (d : Configuration)
      → 0 < r.who → IsStepOf here.at r.who d → r.after ≡ d.state
      → MovesStand rely limit (following_step here d) k ms qs rs → MovesStand rely limit here k ms qs (r ∷ rs)
  -- the next record is the next move
  ByMove : {here : Place} {k : ℕ} {ms : List MoveTree} {qs : List Passed} {rs : List Entry} (m : MoveTree) (r : Entry)
      → r.who ≡ 0 → IsDue limit here m.at → r.after ≡ moved here m
      → MovesStand rely limit (after_move here r.after) (k + 1) ms qs rs → MovesStand rely limit here k (m ∷ ms) qs (r ∷ rs)
  -- the next move is refused here
  Refused : {here : Place} {k : ℕ} {ms : List MoveTree} {qs : List Passed} {rs : List Entry} (m : MoveTree) (q : Passed)
      → IsRefusedAt rely limit here k m q
      → MovesStand rely limit here (k + 1) ms qs rs → MovesStand rely limit here k (m ∷ ms) (q ∷ qs) rs
