-- The runs of a statement: which traces it can make, and whether it has ended.
use Rattle.std.specs.Prelude.{◌≡◌, Bool, true, false, List, [], ◌∷◌, ◌++◌}
use Rattle.rg_tree.specs.Statements.{Statement, skip, assign, await, sequence, branch, loop, Items, one, more}
use Rattle.rg_tree.specs.ConditionTrees.{assigned}
use Rattle.rg_tree.specs.Traces.{State, holds_at}
use Rattle.rg_tree.specs.Traces.{ViewStep, Own, Env, last}

-- a set of traces, each from a first state, with a flag that says whether it has ended
abbrev pub Behavior : Type 1
Behavior = State → List ViewStep → Bool → Type 0

-- steps of the environment alone
abbrev pub AllEnv : List ViewStep → Type 0
AllEnv [] = Unit {0}
AllEnv (Env t ∷ ms) = AllEnv ms
AllEnv (Own t ∷ ms) = ⊥

-- steps of the environment, and then one own step from a state to another, after which `next` goes on; or not so far yet
abbrev pub Once : (State → State → List ViewStep → Bool → Type 0) → Behavior
Once next s [] ended = ended ≡ false
Once next s (Env t ∷ ms) ended = Once next t ms ended
Once next s (Own t ∷ ms) ended = next s t ms ended

-- the step is to this state, where the test holds, and nothing is left but the environment
pub record Acts (b : State → Bool) (f : State → State) (s t : State) (ms : List ViewStep) (ended : Bool) : Type 0 where
  pub test : b s ≡ true
  pub result : t ≡ f s
  pub rest : AllEnv ms
  pub over : ended ≡ true

-- one step to f s from a state in which b holds
abbrev pub Atomic : (State → Bool) → (State → State) → Behavior
Atomic b f = Once (Acts b f)

-- a run of the first, not ended; or an ended run of it, joined with a run of the second
pub data Then (A B : State → List ViewStep → Bool → Type 0) : State → List ViewStep → Bool → Type 0 where
  Within : {s : State} {ms : List ViewStep} → A s ms false → Then A B s ms false
  Past : {s : State} {ms : List ViewStep} {ended : Bool} (before rest : List ViewStep) → ms ≡ before ++ rest → A s before true → B (last s before) rest ended → Then A B s ms ended

-- the test is a step that changes nothing, and the run goes on as it says
pub data Tests (b : State → Bool) (A B : State → List ViewStep → Bool → Type 0) : State → State → List ViewStep → Bool → Type 0 where
  Yes : {s t : State} {ms : List ViewStep} {ended : Bool} → t ≡ s → b s ≡ true → A t ms ended → Tests b A B s t ms ended
  No : {s t : State} {ms : List ViewStep} {ended : Bool} → t ≡ s → b s ≡ false → B t ms ended → Tests b A B s t ms ended

-- the test is made in one step, and the run goes on as the first where it holds, else as the second
abbrev pub Choice : (State → Bool) → Behavior → Behavior → Behavior
Choice b A B = Once (Tests b A B)

-- any number of turns
pub data Loop (b : State → Bool) (A : State → List ViewStep → Bool → Type 0) : State → List ViewStep → Bool → Type 0 where
  Idle : {s : State} → Loop b A s [] false
  Wait : {s t : State} {ms : List ViewStep} {ended : Bool} → Loop b A t ms ended → Loop b A s (Env t ∷ ms) ended
  Leave : {s t : State} {ms : List ViewStep} → t ≡ s → b s ≡ false → AllEnv ms → Loop b A s (Own t ∷ ms) true
  Inner : {s t : State} {ms : List ViewStep} → t ≡ s → b s ≡ true → A t ms false → Loop b A s (Own t ∷ ms) false
  Again : {s t : State} {ms : List ViewStep} {ended : Bool} (before rest : List ViewStep) → t ≡ s → b s ≡ true → ms ≡ before ++ rest → A t before true → Loop b A (last t before) rest ended → Loop b A s (Own t ∷ ms) ended

-- the test that holds in every state
abbrev pub always : State → Bool
always s = true

-- the runs of a statement, and of the items of a sequence, one after another
abbrev mutual
  pub runs : Statement → Behavior
  runs (skip n) = Atomic always (assigned [])
  runs (assign n a) = Atomic always (assigned (a ∷ []))
  runs (await n b as') = Atomic (holds_at b) (assigned as')
  runs (sequence n s items) = Then (runs s) (runs_of_items items)
  runs (branch n b s t) = Choice (holds_at b) (runs s) (runs t)
  runs (loop n b s) = Loop (holds_at b) (runs s)

  pub runs_of_items : Items → Behavior
  runs_of_items (one s) = runs s
  runs_of_items (more s items) = Then (runs s) (runs_of_items items)
