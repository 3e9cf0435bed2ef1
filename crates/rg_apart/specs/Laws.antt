-- What the conditions are good for.
use Rattle.std.specs.Prelude.{◌≡◌, ◌≢◌, ℕ, ◌<◌, Bool, true, List, [], length, map, slice_get, Some, None}
use Rattle.rg_tree.specs.Statements.{PartTree, ProgramTree}
use Rattle.rg_tree.specs.TypedPrograms.{IsTypedProgram}
use Rattle.rg_tree.specs.Meaning.{holds}
use Rattle.rg_tree.specs.Traces.{State, Step, holds_at, last_of}
use Rattle.rg_tree.specs.Programs.{OthersInside}
use Rattle.rg_tree.specs.RuleConditions.{as_condition, AllConditionsHold}
use Rattle.rg_tree.specs.Lines.{LineTree}
use Rattle.rg_code.specs.Code.{count_of}
use Rattle.rg_erase.specs.Erased.{staying, erased_program}
use Rattle.rg_erase.specs.Faults.{fault_of}
use Rattle.rg_c_plan.specs.Accesses.{StepTree, steps, writes}
use Rattle.rg_c_plan.specs.Apart.{is_apart}
use Rattle.rg_c_plan.specs.Where.{accesses_at}
use Rattle.rg_accept.specs.Accepted.{IsProvedBy}
use Rattle.rg_accept.specs.Standing.{AreStanding}
use Rattle.rg_apart.specs.Lifted.{old_places}
use Rattle.rg_apart.specs.Conditions.{apart_asked}

-- the i-th part, of those that stand at these places, stands at this step
pub record StandsAt (p : ProgramTree) (at : List ℕ) (i : ℕ) (s : StepTree) : Type 0 where
  pub part : PartTree
  pub place : ℕ
  pub found : slice_get p.parts i ≡ Some part
  pub stands : slice_get at i ≡ Some place
  pub step : slice_get (steps part.body) place ≡ Some s

-- a run of p from its pre, with steps of the environment inside its rely, after which the parts stand at these places, and of whose last state this stays
pub record IsRunTo (p : ProgramTree) (erased : List Bool) (at : List ℕ) (state : State) : Type 0 where
  pub start : State
  pub steps : List Step
  pub standing : AreStanding p start steps at
  pub begins : holds_at p.spec.pre start ≡ true
  pub inside : OthersInside (holds p.spec.rely) start steps
  pub stays : staying erased (last_of start steps) ≡ state

-- as many blocks in a part of p
pub record HasPart (p : ProgramTree) (i count : ℕ) : Type 0 where
  pub part : PartTree
  pub found : slice_get p.parts i ≡ Some part
  pub same_count : count_of part.body ≡ count

-- q is typed; its words are those of p that stay; its parts have the blocks of p's; and after each run of q the parts stand where those of p stand after a run of p, of which it is what stays without these words
pub record IsLeftOf (erased : List Bool) (p q : ProgramTree) : Type 0 where
  pub typed : IsTypedProgram q
  pub words : q.words ≡ staying erased p.words
  pub parts : (i : ℕ) (part : PartTree) → slice_get q.parts i ≡ Some part → HasPart p i (count_of part.body)
  pub runs : (s : State) (xs : List Step) (at : List ℕ) → AreStanding q s xs at → holds_at q.spec.pre s ≡ true → OthersInside (holds q.spec.rely) s xs → IsRunTo p erased at (last_of s xs)

-- so it is of a program and what is left of it without these words; and of a program and itself
abbrev pub ErasedIsLeft : Type 0
ErasedIsLeft = (erased : List Bool) (p : ProgramTree) → IsTypedProgram p → fault_of erased p ≡ None → IsLeftOf erased p (erased_program erased p)

abbrev pub WholeIsLeft : Type 0
WholeIsLeft = (p : ProgramTree) → IsTypedProgram p → IsLeftOf [] p p

-- the conditions for a word of q are true
abbrev pub AreTrueAt : ProgramTree → ProgramTree → List Bool → List LineTree → ℕ → Type 0
AreTrueAt p q erased lines k = AllConditionsHold (map (as_condition p.words) (apart_asked p q (old_places erased p.words) lines k))

-- lines derive p's parts, and their conditions are true, and those of the flagged words of q
pub record KeepApart (p q : ProgramTree) (erased : List Bool) (lines : List LineTree) (apart : List Bool) : Type 0 where
  pub proved : ∥ IsProvedBy p lines ∥₁
  pub apart_hold : (k : ℕ) → k < length q.words → is_apart apart k ≡ true → AreTrueAt p q erased lines k

-- no run of q from its pre, with steps of the environment inside its rely, brings two parts to steps that both access a flagged word in one state, and of which one
-- may write it
abbrev pub PartsAreApart : ProgramTree → List Bool → Type 0
PartsAreApart q apart =
    (s : State) (xs : List Step) (at : List ℕ) → AreStanding q s xs at → holds_at q.spec.pre s ≡ true → OthersInside (holds q.spec.rely) s xs →
    (k : ℕ) → k < length q.words → is_apart apart k ≡ true → (i j : ℕ) → i ≢ j → (a b : StepTree) → StandsAt q at i a → StandsAt q at j b →
    writes k a.act ≡ true → accesses_at q.words k (last_of s xs) a ≡ true → accesses_at q.words k (last_of s xs) b ≡ true → ⊥

-- so it is of what is left of a program whose assertions keep its parts apart
abbrev pub PartsNeverMeet : Type 0
PartsNeverMeet =
    (p q : ProgramTree) (erased : List Bool) → IsLeftOf erased p q → (lines : List LineTree) (apart : List Bool) → KeepApart p q erased lines apart → PartsAreApart q apart
