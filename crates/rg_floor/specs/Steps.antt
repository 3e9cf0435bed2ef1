-- What the steps of parts and of the environment make of a configuration and of changes, and why a move is refused.
use Rattle.std.specs.Prelude.{◌≡◌, ◌+◌, ◌==◌, Bool, true, ◌&&◌, ◌||◌, not, ℕ, List, [], ◌∷◌, ◌++◌, length, if◌then◌else◌, Option, Some, None, Result, Ok, Err}
use Rattle.std.specs.declared.alloc.AllocError.{AllocError}
use Rattle.rg_words.specs.Layout.{Word}
use Rattle.rg_words.specs.States.{IsPair}
use Rattle.rg_words.specs.Refusals.{refused, no_memory}
use Rattle.rg_words.specs.declared.refusal.Refusal.{Refusal}
use Rattle.rg_words.specs.declared.refusal.RefusalNumber.{RefusalNumber}
use Rattle.rg_words.specs.declared.refusal.RefusalNumber.TheVariants.{OutsideRely, MovesEnded, FixedMoved}
use Rattle.rg_tree.specs.Inside.{is_inside}
use Rattle.rg_tree.specs.Statements.{ProgramTree}
use Rattle.rg_tree.specs.Traces.{State}
use Rattle.rg_machine.specs.Machine.{Configuration, IsStepOf}
use Rattle.rg_monitor.specs.Entry.{Entry, entry_of}
use Rattle.rg_floor.specs.Changes.{Changing, change_of}
use Rattle.rg_floor.specs.Ready.{line_at}

-- whether the fixed words have the same values in both states
abbrev pub keeps_fixed : List Word → State → State → Bool
keeps_fixed (w ∷ ws) (x ∷ xs) (y ∷ ys) = (not w.fixed || (x == y)) && keeps_fixed ws xs ys
keeps_fixed _ _ _ = true

-- why a move from a state to another is refused, if it is: the first of these three that holds; the flag says whether moves may still come
abbrev pub move_fault : ProgramTree → Bool → State → State → Option RefusalNumber
move_fault p m s t =
    if not m then Some MovesEnded
    else if not (keeps_fixed p.words s t) then Some FixedMoved
    else if not (is_inside p.spec.rely s t) then Some OutsideRely
    else None

-- with this fault the error is its refusal; with none it is want of memory
abbrev pub IsErrorOf : Option RefusalNumber → Refusal → Type 0
IsErrorOf (Some number) e = e ≡ refused number
IsErrorOf None e = e ≡ no_memory

-- what the step of a part makes of a configuration and of changes: with its record, a configuration to which the block leads, twice,
-- and its change after the others; an error changes nothing
abbrev pub StepMakes : ProgramTree → Configuration → List Changing → ℕ → Result Entry AllocError → Configuration → Configuration → List Changing → Type 0
StepMakes p c cs who (Ok r) d ahead ds =
    IsStepOf c who d × (r ≡ entry_of p (length cs + 1) who (line_at c.codes c.places who) c.state d.state) × (ahead ≡ d)
    × (ds ≡ cs ++ change_of who (line_at c.codes c.places who) c.state d.state ∷ [])
StepMakes p c cs who (Err e) d ahead ds = (d ≡ c) × (ahead ≡ c) × (ds ≡ cs)

-- the same of a move to a state
abbrev pub MoveMakes : ProgramTree → Bool → Configuration → List Changing → State → Result Entry Refusal → Configuration → Configuration → List Changing → Type 0
MoveMakes p m c cs t (Ok r) d ahead ds =
    (move_fault p m c.state t ≡ None) × IsPair c.words c.state t × (r ≡ entry_of p (length cs + 1) 0 0 c.state t) × (d ≡ record c { state = t }) × (ahead ≡ d)
    × (ds ≡ cs ++ change_of 0 0 c.state t ∷ [])
MoveMakes p m c cs t (Err e) d ahead ds = IsErrorOf (move_fault p m c.state t) e × (d ≡ c) × (ahead ≡ c) × (ds ≡ cs)
