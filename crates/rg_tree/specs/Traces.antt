-- Traces: a first state and a list of steps.
use Rattle.std.specs.Prelude.{◌≡◌, ℕ, Bool, true, List, [], ◌∷◌, ◌⊎◌, ◌==◌, ◌≤◌, if◌then◌else◌}
use Rattle.rg_words.specs.Layout.{Word}
use Rattle.rg_tree.specs.Trees.{Proposition}
use Rattle.rg_tree.specs.Meaning.{holds}
use Rattle.rg_words.specs.States.{IsState, IsPair}

-- a state: the value of each declared word, in their order
abbrev pub State : Type 0
State = List ℕ

-- a formula of one state
abbrev pub holds_at : Proposition → State → Bool
holds_at f s = holds f s s

-- one step as a statement sees it, with the state that it leads to: its own, or of its environment
pub data ViewStep : Type 0 where
  Own : State → ViewStep
  Env : State → ViewStep

-- one step of a program: by the environment (who is 0) or by a part (its number, from 1)
pub record Step : Type 0 where
  pub who : ℕ
  pub after : State

-- the last state
abbrev pub last : State → List ViewStep → State
last s [] = s
last s (Own t ∷ ms) = last t ms
last s (Env t ∷ ms) = last t ms

-- the last state of a program's trace
abbrev pub last_of : State → List Step → State
last_of s [] = s
last_of s (x ∷ xs) = last_of x.after xs

-- all states are states of these words, and no step changes a fixed word
abbrev pub IsTrace : List Word → State → List ViewStep → Type 0
IsTrace words s [] = IsState words s
IsTrace words s (Own t ∷ ms) = IsPair words s t × IsTrace words t ms
IsTrace words s (Env t ∷ ms) = IsPair words s t × IsTrace words t ms

-- the same of a program with n parts, and each step is by one of them or by the environment
abbrev pub IsTraceOf : List Word → ℕ → State → List Step → Type 0
IsTraceOf words n s [] = IsState words s
IsTraceOf words n s (x ∷ xs) = (x.who ≤ n) × IsPair words s x.after × IsTraceOf words n x.after xs

-- how part i sees a step of the program
abbrev pub view_step : ℕ → Step → ViewStep
view_step i x = if x.who == i then Own x.after else Env x.after

-- how part i sees a trace of the program: its own steps are its own, all others its environment's
abbrev pub view : ℕ → List Step → List ViewStep
view i [] = []
view i (x ∷ xs) = view_step i x ∷ view i xs

-- R holds of the two states, or nothing changed
abbrev pub Inside : (State → State → Bool) → State → State → Type 0
Inside R s t = (R s t ≡ true) ⊎ (t ≡ s)

-- each step of the environment is inside R
abbrev pub EnvInside : (State → State → Bool) → State → List ViewStep → Type 0
EnvInside R s [] = Unit {0}
EnvInside R s (Own t ∷ ms) = EnvInside R t ms
EnvInside R s (Env t ∷ ms) = Inside R s t × EnvInside R t ms

-- each own step is inside G
abbrev pub OwnInside : (State → State → Bool) → State → List ViewStep → Type 0
OwnInside G s [] = Unit {0}
OwnInside G s (Own t ∷ ms) = Inside G s t × OwnInside G t ms
OwnInside G s (Env t ∷ ms) = OwnInside G t ms
