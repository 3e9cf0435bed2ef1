-- Following a trace: what is still to be done, as a list of statements, of which one own step takes the first.
use Rattle.std.specs.Prelude.{◌≡◌, Bool, true, false, ◌&&◌, ◌==◌, List, [], ◌∷◌, ◌++◌, if◌then◌else◌, Option, Some, None, option_and_then, ◌↔◌}
use Rattle.rg_tree.specs.Statements.{Statement, skip, assign, await, sequence, branch, loop, Items, one, more}
use Rattle.rg_tree.specs.ConditionTrees.{assigned}
use Rattle.rg_tree.specs.Traces.{State, holds_at}
use Rattle.rg_tree.specs.Traces.{ViewStep, Own, Env}
use Rattle.rg_tree.specs.Runs.{runs}

-- the two states have the same values
abbrev pub same_state : State → State → Bool
same_state [] [] = true
same_state (x ∷ xs) (y ∷ ys) = x == y && same_state xs ys
same_state [] (y ∷ ys) = false
same_state (x ∷ xs) [] = false

-- the items of a sequence, as a list
abbrev pub list_of : Items → List Statement
list_of (one s) = s ∷ []
list_of (more s items) = s ∷ list_of items

-- what is to be done after an own step of this statement from s to t, and then the rest; none where it can't make that step
abbrev pub step_of : Statement → List Statement → State → State → Option (List Statement)
step_of (skip n) rest s t = if same_state t s then Some rest else None
step_of (assign n a) rest s t = if same_state t (assigned (a ∷ []) s) then Some rest else None
step_of (await n b act) rest s t = if holds_at b s && same_state t (assigned act s) then Some rest else None
step_of (sequence n first items) rest s t = step_of first (list_of items ++ rest) s t
step_of (branch n b x y) rest s t = if same_state t s then Some ((if holds_at b s then x else y) ∷ rest) else None
step_of (loop n b x) rest s t = if same_state t s then Some (if holds_at b s then x ∷ loop n b x ∷ rest else rest) else None

-- the same where these statements are to be done, one after another
abbrev pub step_of_all : List Statement → State → State → Option (List Statement)
step_of_all [] s t = None
step_of_all (x ∷ rest) s t = step_of x rest s t

-- nothing is left to do
abbrev pub is_done : List Statement → Bool
is_done [] = true
is_done (x ∷ rest) = false

-- whether the run has ended that makes these steps from this state, where these statements are to be done, one after another; none where there is no such run
abbrev pub followed : List Statement → State → List ViewStep → Option Bool
followed todo s [] = Some (is_done todo)
followed todo s (Env t ∷ ms) = followed todo t ms
followed todo s (Own t ∷ ms) = option_and_then (λ todo'. followed todo' t ms) (step_of_all todo s t)

-- following decides the runs of a statement
abbrev pub FollowingDecides : Type 0
FollowingDecides = (stmt : Statement) (s : State) (ms : List ViewStep) (ended : Bool) → (followed (stmt ∷ []) s ms ≡ Some ended) ↔ runs stmt s ms ended
