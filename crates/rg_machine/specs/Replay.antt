-- Events that happen one after another.
use Rattle.std.specs.Prelude.{◌≡◌, ℕ, ◌<◌, ◌≤◌, List, [], ◌∷◌, Some, length, slice_get}
use Rattle.rg_words.specs.Layout.{widths_of}
use Rattle.rg_words.specs.States.{IsPair}
use Rattle.rg_tree.specs.Traces.{State}
use Rattle.rg_machine.specs.declared.event.Event.{Event}
use Rattle.rg_machine.specs.declared.event.Event.TheVariants.{Part, Environment}
use Rattle.rg_machine.specs.Machine.{Configuration, IsStepOf}

-- what may happen: a step of a part, or that the environment makes this the state
pub data Happening : Type 0 where
  by_part : ℕ → Happening
  by_environment : State → Happening

-- an event of the code, without where it lies in memory
abbrev pub happening : Event → Happening
happening (Part i) = by_part i
happening (Environment s) = by_environment s.values

-- the part is there, and a state has the widths of the words
abbrev pub EventFits : Configuration → Event → Type 0
EventFits c (Part i) = (0 < i) × (i ≤ length c.codes)
EventFits c (Environment s) = s.widths ≡ widths_of c.words

-- each of these events fits
abbrev pub EventsFit : Configuration → List Event → Type 0
EventsFit c [] = Unit {0}
EventsFit c (e ∷ es) = EventFits c e × EventsFit c es

-- the environment leads from the one to the other: any state that agrees on the fixed words, and all places stay
pub record IsMoveTo (c : Configuration) (t : State) (d : Configuration) : Type 0 where
  pub words : d.words ≡ c.words
  pub codes : d.codes ≡ c.codes
  pub state : d.state ≡ t
  pub places : d.places ≡ c.places
  pub pair : IsPair c.words c.state t

-- it can happen at the one, and leads to the other
abbrev pub Leads : Configuration → Happening → Configuration → Type 0
Leads c (by_part i) d = IsStepOf c i d
Leads c (by_environment t) d = IsMoveTo c t d

-- these happen in order, and lead from the one to the other
abbrev pub Replays : Configuration → List Happening → Configuration → Type 0
Replays c [] d = d ≡ c
Replays c (e ∷ es) d = (m : Configuration) × Leads c e m × Replays m es d

-- the event at this place, if there is one, can't happen
abbrev pub CannotGoOn : Configuration → List Happening → ℕ → Type 0
CannotGoOn c es n = (e : Happening) → slice_get es n ≡ Some e → (d : Configuration) → Leads c e d → ⊥
