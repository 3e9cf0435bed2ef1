-- Programs: their runs, and what it means that one satisfies its specification.
use Rattle.std.specs.Prelude.{◌≡◌, ℕ, zero, suc, Bool, true, ◌&&◌, List, [], ◌∷◌, ◌++◌, Option, Some, None, length, slice_get}
use Rattle.rg_tree.specs.Meaning.{holds}
use Rattle.rg_tree.specs.Statements.{PartTree, ProgramTree}
use Rattle.rg_tree.specs.Traces.{State, Step, holds_at, IsTraceOf, Inside, last_of, view}
use Rattle.rg_tree.specs.Runs.{runs}
use Rattle.rg_tree.specs.Satisfaction.{StatementSatisfies}

-- the k-th of a list, from 1
abbrev pub nth : {A : Type 0} → List A → ℕ → Option A
nth xs zero = None
nth xs (suc k) = slice_get xs k

-- the view of each part, numbered from i, is a run of its body, with its flag
abbrev pub ViewsRun : ℕ → List PartTree → List Bool → State → List Step → Type 0
ViewsRun i [] [] s xs = Unit {0}
ViewsRun i (p ∷ ps) (e ∷ es) s xs = runs p.body s (view i xs) e × ViewsRun (suc i) ps es s xs
ViewsRun i [] (e ∷ es) s xs = ⊥
ViewsRun i (p ∷ ps) [] s xs = ⊥

-- all of these flags are true
abbrev pub all_true : List Bool → Bool
all_true [] = true
all_true (e ∷ es) = e && all_true es

-- a run of the program, which has ended where all views have
pub record IsRun (program : ProgramTree) (s : State) (xs : List Step) (ended : Bool) : Type 0 where
  pub trace : IsTraceOf program.words (length program.parts) s xs
  pub flags : List Bool
  pub views : ViewsRun 1 program.parts flags s xs
  pub over : ended ≡ all_true flags

-- each step of the environment is inside R
abbrev pub OthersInside : (State → State → Bool) → State → List Step → Type 0
OthersInside R s [] = Unit {0}
OthersInside R s (x ∷ xs) = (x.who ≡ 0 → Inside R s x.after) × OthersInside R x.after xs

-- each step of a part is inside G and inside that part's own guarantee
abbrev pub PartsInside : (State → State → Bool) → List PartTree → State → List Step → Type 0
PartsInside G parts s [] = Unit {0}
PartsInside G parts s (x ∷ xs) =
    ((p : PartTree) → nth parts x.who ≡ Some p → Inside G s x.after × Inside (holds p.spec.guar) s x.after) × PartsInside G parts x.after xs

-- the program satisfies its specification: every run from the pre, with steps of the environment inside the rely, makes
-- only steps inside the guarantee and the acting part's own, and where it has ended, it stands in the post
pub record IsSatisfied (program : ProgramTree) : Type 0 where
  pub steps : (s : State) (xs : List Step) (ended : Bool) → IsRun program s xs ended → holds_at program.spec.pre s ≡ true → OthersInside (holds program.spec.rely) s xs → PartsInside (holds program.spec.guar) program.parts s xs
  pub end : (s : State) (xs : List Step) → IsRun program s xs true → holds_at program.spec.pre s ≡ true → OthersInside (holds program.spec.rely) s xs → holds_at program.spec.post (last_of s xs) ≡ true

-- each part's body satisfies the part's own specification
abbrev pub PartsSatisfy : ProgramTree → Type 0
PartsSatisfy program = (i : ℕ) (p : PartTree) → nth program.parts i ≡ Some p → StatementSatisfies program.words p.spec p.body

-- each beginning of a run is a run
abbrev pub BeginningsRun : Type 0
BeginningsRun =
    (program : ProgramTree) (s : State) (xs ys : List Step) (ended : Bool) → IsRun program s (xs ++ ys) ended → (e : Bool) × IsRun program s xs e

-- a trace has one flag at most
abbrev pub OneFlag : Type 0
OneFlag =
    (program : ProgramTree) (s : State) (xs : List Step) (e e' : Bool) → IsRun program s xs e → IsRun program s xs e' → e ≡ e'
