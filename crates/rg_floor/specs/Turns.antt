-- What the calls of a floor answer and leave.
use Rattle.std.specs.Prelude.{◌≡◌, ◌≢◌, ◌⊎◌, ℕ, suc, ◌+◌, ◌==◌, zero, Bool, true, false, ◌||◌, not, nat_le, List, [], ◌∷◌, ◌++◌, length, if◌then◌else◌, Option, Some, None, Result, Ok, Err}
use Rattle.std.specs.declared.alloc.AllocError.{AllocError}
use Rattle.rg_words.specs.Refusals.{refused, no_memory}
use Rattle.rg_words.specs.declared.limits.TheConstants.{MOST_RUN_STEPS}
use Rattle.rg_words.specs.declared.refusal.Refusal.{Refusal}
use Rattle.rg_words.specs.declared.refusal.RefusalNumber.{RefusalNumber}
use Rattle.rg_words.specs.declared.refusal.RefusalNumber.TheVariants.{StartOutsidePre, Mismatch}
use Rattle.rg_words.specs.declared.refusal.RefusalNumber.TheVariants as numbers
use Rattle.rg_tree.specs.Statements.{ProgramTree}
use Rattle.rg_tree.specs.Traces.{State, holds_at}
use Rattle.rg_code.specs.Code.{BlockTree, is_end, all_at_end, zeros}
use Rattle.rg_machine.specs.Machine.{Configuration, IsStepOf}
use Rattle.rg_monitor.specs.Entry.{Entry, entry_of}
use Rattle.rg_floor.specs.declared.closed.Passed.{Passed}
use Rattle.rg_floor.specs.declared.turn.Case.{Case}
use Rattle.rg_floor.specs.declared.turn.Case.TheVariants.{IsOver, AtEnd, Waits, Steps}
use Rattle.rg_floor.specs.declared.turn.Why.{Why}
use Rattle.rg_floor.specs.declared.turn.Why.TheVariants.{Ended as all_ended, Limit, Stuck, Stopped}
use Rattle.rg_floor.specs.declared.turn.Turn.{Turn}
use Rattle.rg_floor.specs.declared.turn.Turn.TheVariants.{Did, Blocked, Ended, Over}
use Rattle.rg_floor.specs.Changes.{Changing, change_of}
use Rattle.rg_floor.specs.History.{FloorView, own_steps}
use Rattle.rg_floor.specs.Ready.{block_at, line_at, can_go, any_can_go}
pub use Rattle.rg_floor.specs.Steps.{keeps_fixed, move_fault, IsErrorOf}

-- which case a turn of this part is: the first that fits
abbrev pub case_of : List (List BlockTree) → ℕ → FloorView → ℕ → Case
case_of codes limit f who =
    if f.stopped then IsOver Stopped
    else if all_at_end codes f.places then IsOver all_ended
    else if own_steps f.history == limit then IsOver Limit
    else if is_end (block_at codes f.places who) then AtEnd
    else if any_can_go codes f.places f.words || f.more then (if can_go (block_at codes f.places who) f.words then Steps else Waits)
    else IsOver Stuck

-- the words and the places of a floor, as the machine has them
abbrev pub standing : ProgramTree → List (List BlockTree) → FloorView → Configuration
standing p codes f = record { words = p.words; codes = codes; state = f.words; places = f.places }

-- the record of one more step, made by who, to this state
abbrev pub next_record : ProgramTree → List (List BlockTree) → FloorView → ℕ → State → Entry
next_record p codes f who t = entry_of p (length f.history + 1) who (line_at codes f.places who) f.words t

-- the floor with one more step, made by who, to this state and these places
abbrev pub with_step : ProgramTree → List (List BlockTree) → FloorView → ℕ → State → List ℕ → FloorView
with_step p codes f who t ks = record f {
  words = t;
  places = ks;
  changes = f.changes ++ change_of who (line_at codes f.places who) f.words t ∷ [];
  history = f.history ++ next_record p codes f who t ∷ [];
}

-- a turn of a part that does its block: the block leads from the words and the places to the new ones, the answer is the record
-- of that step, which the history gains at its end, the seat's count of steps goes up by one, and all else stays
pub record Goes (p : ProgramTree) (codes : List (List BlockTree)) (f : FloorView) (who : ℕ) (t : Turn) (g : FloorView) (had has : ℕ) : Type 0 where
  pub step : IsStepOf (standing p codes f) who (standing p codes g)
  pub answer : t ≡ Did (next_record p codes f who g.words)
  pub floor : g ≡ with_step p codes f who g.words g.places
  pub count : has ≡ had + 1

-- what a turn answers in each case, and what it leaves of the floor and of the seat's count of steps
abbrev pub TurnFits : ProgramTree → List (List BlockTree) → FloorView → ℕ → Case → Turn → FloorView → ℕ → ℕ → Type 0
TurnFits p codes f who (IsOver why) t g had has = (t ≡ Over why) × (g ≡ f) × (has ≡ had)
TurnFits p codes f who AtEnd t g had has = (t ≡ Ended) × (g ≡ f) × (has ≡ had)
TurnFits p codes f who Waits t g had has = (t ≡ Blocked) × (g ≡ f) × (has ≡ had)
TurnFits p codes f who Steps t g had has = Goes p codes f who t g had has

-- memory may run out where a step is to be made alone, and then nothing changes
abbrev pub TurnGives : ProgramTree → List (List BlockTree) → ℕ → FloorView → ℕ → Result Turn AllocError → FloorView → ℕ → ℕ → Type 0
TurnGives p codes limit f who (Ok t) g had has = TurnFits p codes f who (case_of codes limit f who) t g had has
TurnGives p codes limit f who (Err e) g had has = (case_of codes limit f who ≡ Steps) × (g ≡ f) × (has ≡ had)

-- what a move answers and leaves: without a fault the history gains its record at its end, and the words are the ones given; with
-- one, and where memory was refused, nothing changes
abbrev pub MoveGives : ProgramTree → List (List BlockTree) → FloorView → State → Result Entry Refusal → FloorView → Type 0
MoveGives p codes f t (Ok r) g =
    (move_fault p f.more f.words t ≡ None) × (r ≡ next_record p codes f 0 t) × (g ≡ with_step p codes f 0 t f.places)
MoveGives p codes f t (Err e) g = IsErrorOf (move_fault p f.more f.words t) e × (g ≡ f)

-- the numbers of the parts, in order
abbrev pub numbers_to : ℕ → List ℕ
numbers_to zero = []
numbers_to (suc n) = numbers_to n ++ suc n ∷ []

-- a floor before its first step
abbrev pub opened : List (List BlockTree) → State → FloorView
opened codes start =
    record { words = start; places = zeros codes; changes = []; history = []; stopped = false; more = true }

-- why a floor isn't opened, if it isn't: the first of these two that holds
abbrev pub open_fault : ProgramTree → State → ℕ → Option RefusalNumber
open_fault p start limit =
    if not (nat_le limit MOST_RUN_STEPS) then Some numbers.Limit
    else if not (holds_at p.spec.pre start) then Some StartOutsidePre
    else None

-- no step of a part comes: the run is over, or none can step
abbrev pub is_idle : List (List BlockTree) → ℕ → FloorView → Bool
is_idle codes limit f =
    f.stopped || (own_steps f.history == limit || not (any_can_go codes f.places f.words))

-- why a floor is over: the first that fits, and Stopped where none does
abbrev pub why_of : List (List BlockTree) → ℕ → FloorView → Why
why_of codes limit f =
    if f.stopped then Stopped
    else if all_at_end codes f.places then all_ended
    else if own_steps f.history == limit then Limit
    else if any_can_go codes f.places f.words || f.more then Stopped
    else Stuck

-- what is left of a run: why it is over, its changes and its records, and the moves that were passed over
pub record ClosedView : Type 0 where
  pub why : Why
  pub changes : List Changing
  pub history : List Entry
  pub refused : List Passed

-- what closing answers of a run with this why, these changes and this history: what is left of it where the printed records are
-- the history, and else a refusal; or there was no memory
abbrev pub CloseGives : Why → List Changing → List Entry → List Entry → Result ClosedView Refusal → Type 0
CloseGives why changes history printed (Ok c) =
    (printed ≡ history) × (c ≡ record { why = why; changes = changes; history = history; refused = [] })
CloseGives why changes history printed (Err e) = ((e ≡ refused Mismatch) × (printed ≢ history)) ⊎ (e ≡ no_memory)
