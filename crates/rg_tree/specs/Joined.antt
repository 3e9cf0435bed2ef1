-- The runs of a statement once more, as the least set that is closed under the joins of traces: a reading to compare `runs` with.
use Rattle.std.specs.Prelude.{◌≡◌, ℕ, Bool, true, false, List, [], ◌∷◌, ◌++◌, ◌↔◌}
use Rattle.rg_tree.specs.Trees.{Proposition, Assignment}
use Rattle.rg_tree.specs.Statements.{Statement, skip, assign, await, sequence, branch, loop, Items, one, more}
use Rattle.rg_tree.specs.ConditionTrees.{assigned}
use Rattle.rg_tree.specs.Traces.{State, holds_at}
use Rattle.rg_tree.specs.Traces.{ViewStep, Own, last}
use Rattle.rg_tree.specs.Runs.{AllEnv, runs}

-- steps of the environment, one own step, and what follows it
pub record IsSplit (s : State) (ms before : List ViewStep) (t : State) (after : List ViewStep) : Type 0 where
  pub whole : ms ≡ before ++ Own t ∷ after
  pub waits : AllEnv before

mutual
  pub data Run : Statement → State → List ViewStep → Bool → Type 0 where
    Waiting : {stmt : Statement} {s : State} {ms : List ViewStep} → AllEnv ms → Run stmt s ms false
    Skipped : {n : ℕ} {s : State} {ms : List ViewStep} (before after : List ViewStep) → IsSplit s ms before (last s before) after → AllEnv after → Run (skip n) s ms true
    Was_set : {n : ℕ} {a : Assignment} {s : State} {ms : List ViewStep} (before after : List ViewStep) → IsSplit s ms before (assigned (a ∷ []) (last s before)) after → AllEnv after → Run (assign n a) s ms true
    Awaited : {n : ℕ} {b : Proposition} {act : List Assignment} {s : State} {ms : List ViewStep} (before after : List ViewStep) → IsSplit s ms before (assigned act (last s before)) after → holds_at b (last s before) ≡ true → AllEnv after → Run (await n b act) s ms true
    In_seq : {n : ℕ} {first : Statement} {items : Items} {s : State} {ms : List ViewStep} {ended : Bool} → RunItems (more first items) s ms ended → Run (sequence n first items) s ms ended
    On_yes : {n : ℕ} {b : Proposition} {yes_block no_block : Statement} {s : State} {ms : List ViewStep} {ended : Bool} (before after : List ViewStep) → IsSplit s ms before (last s before) after → holds_at b (last s before) ≡ true → Run yes_block (last s before) after ended → Run (branch n b yes_block no_block) s ms ended
    On_no : {n : ℕ} {b : Proposition} {yes_block no_block : Statement} {s : State} {ms : List ViewStep} {ended : Bool} (before after : List ViewStep) → IsSplit s ms before (last s before) after → holds_at b (last s before) ≡ false → Run no_block (last s before) after ended → Run (branch n b yes_block no_block) s ms ended
    Left : {n : ℕ} {b : Proposition} {body : Statement} {s : State} {ms : List ViewStep} (before after : List ViewStep) → IsSplit s ms before (last s before) after → holds_at b (last s before) ≡ false → AllEnv after → Run (loop n b body) s ms true
    In_body : {n : ℕ} {b : Proposition} {body : Statement} {s : State} {ms : List ViewStep} {ended : Bool} (before after : List ViewStep) → IsSplit s ms before (last s before) after → holds_at b (last s before) ≡ true → Run body (last s before) after ended → Run (loop n b body) s ms false
    Turned : {n : ℕ} {b : Proposition} {body : Statement} {s : State} {ms : List ViewStep} {ended : Bool} (before turn rest : List ViewStep) → IsSplit s ms before (last s before) (turn ++ rest) → holds_at b (last s before) ≡ true → Run body (last s before) turn true → Run (loop n b body) (last (last s before) turn) rest ended → Run (loop n b body) s ms ended

  -- ended runs of the items before one, and a run of that one; ended where it is the last and has ended
  pub data RunItems : Items → State → List ViewStep → Bool → Type 0 where
    In_last : {stmt : Statement} {s : State} {ms : List ViewStep} {ended : Bool} → Run stmt s ms ended → RunItems (one stmt) s ms ended
    In_first : {stmt : Statement} {items : Items} {s : State} {ms : List ViewStep} {ended : Bool} → Run stmt s ms ended → RunItems (more stmt items) s ms false
    In_later : {stmt : Statement} {items : Items} {s : State} {ms : List ViewStep} {ended : Bool} (before rest : List ViewStep) → ms ≡ before ++ rest → Run stmt s before true → RunItems items (last s before) rest ended → RunItems (more stmt items) s ms ended

-- both readings are one
abbrev pub RunsAreJoins : Type 0
RunsAreJoins = (stmt : Statement) (s : State) (ms : List ViewStep) (ended : Bool) → Run stmt s ms ended ↔ runs stmt s ms ended
