-- What the fields of a floor keep.
use Rattle.std.specs.Prelude.{◌≡◌, ℕ, ◌≤◌, Bool, true, List, length, map}
use Rattle.rg_words.specs.Layout.{widths_of}
use Rattle.rg_words.specs.States.{Valuation}
use Rattle.rg_words.specs.declared.limits.TheConstants.{MOST_RUN_STEPS}
use Rattle.rg_tree.specs.Meaning.{holds}
use Rattle.rg_tree.specs.Statements.{ProgramTree}
use Rattle.rg_tree.specs.Traces.{State, holds_at, IsTraceOf}
use Rattle.rg_tree.specs.Programs.{OthersInside}
use Rattle.rg_code.specs.Code.{BlockTree, zeros}
use Rattle.rg_machine.specs.Machine.{Configuration}
use Rattle.rg_floor.specs.Changes.{Changing, rebuilt, state_after, AreChangesOf}
use Rattle.rg_floor.specs.History.{FloorView, GoTogether, RecordsLead, steps_of, own_steps, change_in}

-- the fields are those of this code, start and limit, and the changes are those of a legal history
pub record IsKept (p : ProgramTree) (codes : List (List BlockTree)) (start : State) (limit : ℕ) (code : List (List BlockTree)) (c ahead : Configuration) (first scratch : Valuation) (changes : List Changing) (most own total : ℕ) : Type 0 where
  pub code_is : code ≡ codes
  pub words_kept : c.words ≡ p.words
  pub codes_are : c.codes ≡ codes
  pub ahead_is : ahead ≡ c
  pub first_widths : first.widths ≡ widths_of p.words
  pub first_is : first.values ≡ start
  pub scratch_widths : scratch.widths ≡ widths_of p.words
  pub most_is : most ≡ limit
  pub small : limit ≤ MOST_RUN_STEPS
  pub sized : length c.places ≡ length codes
  pub lawful : ∥ GoTogether p codes ∥₁
  pub start_in_pre : holds_at p.spec.pre start ≡ true
  pub trace : IsTraceOf p.words (length codes) start (steps_of (rebuilt p 0 start changes))
  pub leads : RecordsLead p codes 0 (zeros codes) start (rebuilt p 0 start changes) c.places
  pub words_are : c.state ≡ state_after start changes
  pub rely : OthersInside (holds p.spec.rely) start (steps_of (rebuilt p 0 start changes))
  pub own_is : own ≡ own_steps (rebuilt p 0 start changes)
  pub within : own ≤ limit
  pub booked : total ≡ own
  pub fit : AreChangesOf (widths_of p.words) changes
  pub exact : changes ≡ map change_in (rebuilt p 0 start changes)

-- what contracts see of a floor with these fields
abbrev pub view_of : ProgramTree → State → Configuration → List Changing → Bool → Bool → FloorView
view_of p start c changes stopped more =
    record { words = c.state; places = c.places; changes = changes; history = rebuilt p 0 start changes; stopped = stopped; more = more }
