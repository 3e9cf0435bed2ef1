-- What sound kinds are good for.
use Rattle.std.specs.Prelude.{◌≡◌, ◌≢◌, ◌⊎◌, ◌≤◌, ℕ, ◌+◌, ◌<◌, true, false, List, length, slice_get, get_or, Option, Some}
use Rattle.std.specs.List.{Contains}
use Rattle.rg_tree.specs.Statements.{PartTree, ProgramTree}
use Rattle.rg_tree.specs.TypedPrograms.{IsTypedProgram}
use Rattle.rg_tree.specs.Traces.{State}
use Rattle.rg_c_plan.specs.Accesses.{StepTree, steps, reads, writes, touches, accesses, world_access, is_touched}
use Rattle.rg_c_plan.specs.Ways.{kind_at, exposes, way_of}
use Rattle.rg_c_plan.specs.Orders.{rank_of, interrupts, may_act}
use Rattle.rg_c_plan.specs.Views.{no_access, kinds_for}
use Rattle.rg_c_plan.specs.Apart.{is_early}
use Rattle.rg_c_plan.specs.Made.{step_made}
use Rattle.rg_c_plan.specs.Sound.{IsSound}
use Rattle.rg_c_plan.specs.declared.order.Rank.{Rank}
use Rattle.rg_c_plan.specs.declared.kind.Kind.{Kind}
use Rattle.rg_c_plan.specs.declared.kind.Kind.TheVariants.{Apart, Atomic, Guarded}
use Rattle.rg_c_plan.specs.declared.way.Way.TheVariants.{Section}

-- a step of this part
abbrev pub IsStepOf : ProgramTree → ℕ → StepTree → Type 0
IsStepOf p i s = (part : PartTree) × (slice_get p.parts i ≡ Some part) × Contains (steps part.body) s

-- a step outside of sections that exposes one word at most
abbrev pub ExposesOne : List Kind → StepTree → Type 0
ExposesOne kinds s = (way_of kinds s.guard s.act ≢ Section) × ((k j : ℕ) → exposes kinds s.guard s.act k ≡ true → exposes kinds s.guard s.act j ≡ true → j ≡ k)

-- whatever ranks the parts have, which interrupt which is a strict order, and of two parts at different places of one core one interrupts the other
pub record IsStrictOrder (order : List (Option Rank)) : Type 0 where
  pub strict : (i : ℕ) → interrupts order i i ≡ false
  pub orderly : (i j l : ℕ) → interrupts order i j ≡ true → interrupts order j l ≡ true → interrupts order i l ≡ true
  pub total : (i j : ℕ) (a b : Rank) → rank_of order i ≡ Some a → rank_of order j ≡ Some b → a.core ≡ b.core → a.place ≢ b.place → (interrupts order i j ≡ true) ⊎ (interrupts order j i ≡ true)

abbrev pub OrdersAreStrict : Type 0
OrdersAreStrict = (order : List (Option Rank)) → IsStrictOrder order

-- each step exposes one word, outside of sections; or in each state it makes at most one access to an atomic word
abbrev pub StepsAreOneAccess : Type 0
StepsAreOneAccess =
    (kinds : List Kind) (order : List (Option Rank)) (p : ProgramTree) → IsSound kinds order p → (i : ℕ) (s : StepTree) → IsStepOf p i s →
    ExposesOne (kinds_for p order kinds i) s ⊎ ((state : State) → step_made (kinds_for p order kinds i) state s.guard s.act ≤ 1)

-- no party writes a word, or touches it, that may act while the i-th part makes a step
abbrev pub NoOtherWrites : ProgramTree → List (Option Rank) → ℕ → ℕ → Type 0
NoOtherWrites p order i k = (j : ℕ) → j < length (accesses p k) → may_act order i j ≡ true → (get_or (accesses p k) j no_access).writes ≡ false

abbrev pub NoOtherTouches : ProgramTree → List (Option Rank) → ℕ → ℕ → Type 0
NoOtherTouches p order i k = (j : ℕ) → j < length (accesses p k) → may_act order i j ≡ true → is_touched (get_or (accesses p k) j no_access) ≡ false

-- a step meets nobody at a word that it neither exposes nor touches in a section, and at which no parts are kept apart: where it reads it, no party writes it that may act
-- meanwhile, and where it writes it, none touches it
abbrev pub OthersMeetNobody : Type 0
OthersMeetNobody =
    (kinds : List Kind) (order : List (Option Rank)) (p : ProgramTree) → IsTypedProgram p → IsSound kinds order p → (i : ℕ) (s : StepTree) → IsStepOf p i s →
    (k : ℕ) → k < length p.words →
    exposes (kinds_for p order kinds i) s.guard s.act k ≡ false → kind_at (kinds_for p order kinds i) k ≢ Guarded → kind_at kinds k ≢ Apart →
    (reads k s.guard s.act ≡ true → NoOtherWrites p order i k) × (writes k s.act ≡ true → NoOtherTouches p order i k)

-- guarded words are touched in sections, or by a part during whose steps no party may act that touches them
abbrev pub GuardedWordsInSections : Type 0
GuardedWordsInSections =
    (kinds : List Kind) (order : List (Option Rank)) (p : ProgramTree) (i : ℕ) (s : StepTree) (k : ℕ) → k < length p.words → kind_at kinds k ≡ Guarded →
    touches k s.guard s.act ≡ true → (way_of (kinds_for p order kinds i) s.guard s.act ≡ Section) ⊎ NoOtherTouches p order i k

-- a step of the i-th part is made in a section, and one of the j-th part is, too, or this part interrupts the other, which a section holds off
abbrev pub KeepsOff : List Kind → List (Option Rank) → ProgramTree → ℕ → ℕ → StepTree → StepTree → Type 0
KeepsOff kinds order p i j s t =
    (way_of (kinds_for p order kinds i) s.guard s.act ≡ Section) × ((way_of (kinds_for p order kinds j) t.guard t.act ≡ Section) ⊎ (interrupts order j i ≡ true))

-- where steps of two parts touch a word and one of them writes it, and no parts are kept apart there, the word is atomic, or both are in sections, or one part interrupts
-- the other, whose step is in a section: there is no race
abbrev pub NoRaces : Type 0
NoRaces =
    (kinds : List Kind) (order : List (Option Rank)) (p : ProgramTree) → IsTypedProgram p → IsSound kinds order p → (i j : ℕ) → i ≢ j → (s t : StepTree) →
    IsStepOf p i s → IsStepOf p j t → (k : ℕ) → k < length p.words →
    writes k s.act ≡ true → touches k t.guard t.act ≡ true → kind_at kinds k ≢ Apart →
    (kind_at kinds k ≡ Atomic) ⊎ (KeepsOff kinds order p i j s t ⊎ KeepsOff kinds order p j i t s)

-- where a step of a part and the world outside touch a word and one of them writes it, the word is atomic
abbrev pub NoRacesOutside : Type 0
NoRacesOutside =
    (kinds : List Kind) (order : List (Option Rank)) (p : ProgramTree) → IsTypedProgram p → IsSound kinds order p → (i : ℕ) (s : StepTree) → IsStepOf p i s → (k : ℕ) → k < length p.words →
    touches k s.guard s.act ≡ true → is_touched (world_access k p.words p.spec.rely) ≡ true →
    (writes k s.act ≡ true) ⊎ ((world_access k p.words p.spec.rely).writes ≡ true) → kind_at kinds k ≡ Atomic

-- each step that touches a word at which parts are kept apart is early
abbrev pub StepsAreEarly : Type 0
StepsAreEarly =
    (kinds : List Kind) (order : List (Option Rank)) (p : ProgramTree) → IsSound kinds order p → (i : ℕ) (s : StepTree) → IsStepOf p i s → (k : ℕ) → k < length p.words → kind_at kinds k ≡ Apart →
    touches k s.guard s.act ≡ true → is_early (kinds_for p order kinds i) s.guard s.act ≡ true
