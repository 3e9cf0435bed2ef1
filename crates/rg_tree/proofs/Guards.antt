-- What holds of a trace step by step, and of two traces joined.
use Rattle.std.proofs.Common.{◌≡◌, Bool, true, List, [], ◌∷◌, ◌++◌, refl, sym, subst, ⊎_elim}
use Rattle.rg_words.specs.Layout.{Word}
use Rattle.rg_words.specs.States.{IsState, IsPair}
use Rattle.rg_tree.specs.Traces.{State}
use Rattle.rg_tree.specs.Traces.{holds_at, ViewStep, Own, Env, last, IsTrace, Inside, EnvInside, OwnInside}
use Rattle.rg_tree.specs.Meaning.{holds}
use Rattle.rg_tree.specs.Statements.{Statement, Specification}
use Rattle.rg_tree.specs.Runs.{Behavior, AllEnv, runs}
use Rattle.rg_tree.specs.Satisfaction.{BehaviorSatisfies}

-- each own step is inside G, as long as the environment's steps before it are inside R
abbrev pub Guards : (State → State → Bool) → (State → State → Bool) → State → List ViewStep → Type 0
Guards R G s [] = Unit {0}
Guards R G s (Own t ∷ ms) = Inside G s t × Guards R G t ms
Guards R G s (Env t ∷ ms) = Inside R s t → Guards R G t ms

-- the same as `BehaviorSatisfies`, but each own step is promised as soon as it is made
pub record Sound (words : List Word) (p : State → Bool) (R G : State → State → Bool) (q : State → Bool) (B : State → List ViewStep → Bool → Type 0) : Type 0 where
  pub guards : (s : State) (ms : List ViewStep) (ended : Bool) → B s ms ended → IsTrace words s ms → p s ≡ true → Guards R G s ms
  pub ends : (s : State) (ms : List ViewStep) → B s ms true → IsTrace words s ms → p s ≡ true → EnvInside R s ms → q (last s ms) ≡ true

pub Guards-OwnInside : (R G : State → State → Bool) (s : State) (ms : List ViewStep) → Guards R G s ms → EnvInside R s ms → OwnInside G s ms
Guards-OwnInside R G s [] g e = tt
Guards-OwnInside R G s (Own t ∷ ms) g e = (g.0, Guards-OwnInside R G t ms g.1 e)
Guards-OwnInside R G s (Env t ∷ ms) g e = Guards-OwnInside R G t ms (g e.0) e.1

pub Sound-Satisfies : (words : List Word) (p : State → Bool) (R G : State → State → Bool) (q : State → Bool) (B : Behavior) → Sound words p R G q B → BehaviorSatisfies words p R G q B
Sound-Satisfies words p R G q B h = record {
  steps = λ s ms ended run tr at env. Guards-OwnInside R G s ms (h.guards s ms ended run tr at) env;
  end = h.ends;
}

pub trace_state : (words : List Word) (s : State) (ms : List ViewStep) → IsTrace words s ms → IsState words s
trace_state words s [] h = h
trace_state words s (Own t ∷ ms) h = h.0.first
trace_state words s (Env t ∷ ms) h = h.0.first

pub trace_front : (words : List Word) (s : State) (xs ys : List ViewStep) → IsTrace words s (xs ++ ys) → IsTrace words s xs
trace_front words s [] ys h = trace_state words s ys h
trace_front words s (Own t ∷ xs) ys h = (h.0, trace_front words t xs ys h.1)
trace_front words s (Env t ∷ xs) ys h = (h.0, trace_front words t xs ys h.1)

pub trace_back : (words : List Word) (s : State) (xs ys : List ViewStep) → IsTrace words s (xs ++ ys) → IsTrace words (last s xs) ys
trace_back words s [] ys h = h
trace_back words s (Own t ∷ xs) ys h = trace_back words t xs ys h.1
trace_back words s (Env t ∷ xs) ys h = trace_back words t xs ys h.1

pub last-append : (s : State) (xs ys : List ViewStep) → last s (xs ++ ys) ≡ last (last s xs) ys
last-append s [] ys = refl
last-append s (Own t ∷ xs) ys = last-append t xs ys
last-append s (Env t ∷ xs) ys = last-append t xs ys

pub env_front : (R : State → State → Bool) (s : State) (xs ys : List ViewStep) → EnvInside R s (xs ++ ys) → EnvInside R s xs
env_front R s [] ys h = tt
env_front R s (Own t ∷ xs) ys h = env_front R t xs ys h
env_front R s (Env t ∷ xs) ys h = (h.0, env_front R t xs ys h.1)

pub env_back : (R : State → State → Bool) (s : State) (xs ys : List ViewStep) → EnvInside R s (xs ++ ys) → EnvInside R (last s xs) ys
env_back R s [] ys h = h
env_back R s (Own t ∷ xs) ys h = env_back R t xs ys h
env_back R s (Env t ∷ xs) ys h = env_back R t xs ys h.1

pub guards_join : (R G : State → State → Bool) (s : State) (xs ys : List ViewStep) → Guards R G s xs → (EnvInside R s xs → Guards R G (last s xs) ys) → Guards R G s (xs ++ ys)
guards_join R G s [] ys g h = h tt
guards_join R G s (Own t ∷ xs) ys g h = (g.0, guards_join R G t xs ys g.1 h)
guards_join R G s (Env t ∷ xs) ys g h = λ r. guards_join R G t xs ys (g r) (λ e. h (r, e))

pub all_env_guards : (R G : State → State → Bool) (s : State) (ms : List ViewStep) → AllEnv ms → Guards R G s ms
all_env_guards R G s [] a = tt
all_env_guards R G s (Own t ∷ ms) a = absurd a
all_env_guards R G s (Env t ∷ ms) a = λ r. all_env_guards R G t ms a

pub last_state : (words : List Word) (s : State) (ms : List ViewStep) → IsTrace words s ms → IsState words (last s ms)
last_state words s [] tr = tr
last_state words s (Own t ∷ ms) tr = last_state words t ms tr.1
last_state words s (Env t ∷ ms) tr = last_state words t ms tr.1

-- the same of a statement and its four formulas
abbrev pub StatementSound : List Word → Specification → Statement → Type 0
StatementSound words spec s = Sound words (holds_at spec.pre) (holds spec.rely) (holds spec.guar) (holds_at spec.post) (runs s)
