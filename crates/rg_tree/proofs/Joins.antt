-- Joining behaviors.
use Rattle.std.proofs.Common.{◌≡◌, Bool, true, false, List, [], ◌∷◌, ◌++◌, refl, sym, subst, ap, ◌∙◌, append_assoc}
use Rattle.rg_tree.specs.Statements.{Statement, skip, assign, await, sequence, branch, loop, Items, one, more}
use Rattle.rg_tree.specs.ConditionTrees.{assigned}
use Rattle.rg_tree.specs.Traces.{State, holds_at}
use Rattle.rg_tree.specs.Traces.{ViewStep, Own, Env, last}
use Rattle.rg_tree.specs.Runs.{Behavior, AllEnv, Atomic, Then, Within, Past, Tests, Yes, No, Choice, Loop, Idle, Wait, Leave, Inner, Again, runs, runs_of_items, always}
use Rattle.rg_tree.proofs.Guards.{last-append}

-- every run of the one is a run of the other
abbrev pub Below : Behavior → Behavior → Type 0
Below A B = (s : State) (ms : List ViewStep) (ended : Bool) → A s ms ended → B s ms ended

pub then_map : (A B C : Behavior) → Below B C → Below (Then A B) (Then A C)
then_map A B C h s ms ended (Within a) = Within a
then_map A B C h s ms ended (Past before rest e a b) = Past before rest e a (h (last s before) rest ended b)

pub then_assoc_left : (A B C : Behavior) → Below (Then A (Then B C)) (Then (Then A B) C)
then_assoc_left A B C s ms ended (Within a) = Within (Within a)
then_assoc_left A B C s ms ended (Past before rest e a (Within b)) = Within (Past before rest e a b)
then_assoc_left A B C s ms ended (Past before rest e a (Past before2 rest2 e2 b c)) =
    Past (before ++ before2) rest2 (e ∙ ap (λ l. before ++ l) e2 ∙ sym (append_assoc before before2 rest2)) (Past before before2 refl a b) (subst (λ x. C x rest2 ended) (sym (last-append s before before2)) c)

pub then_assoc_right : (A B C : Behavior) → Below (Then (Then A B) C) (Then A (Then B C))
then_assoc_right A B C s ms ended (Within (Within a)) = Within a
then_assoc_right A B C s ms ended (Within (Past before rest e a b)) = Past before rest e a (Within b)
then_assoc_right A B C s ms ended (Past before rest e (Past before1 rest1 e1 a b) c) =
    Past before1 (rest1 ++ rest) (e ∙ ap (λ l. l ++ rest) e1 ∙ append_assoc before1 rest1 rest) a (Past rest1 rest refl b (subst (λ x. C x rest ended) (ap (λ l. last s l) e1 ∙ last-append s before1 rest1) c))

-- one more move in front
pub then_env : (A A' B : Behavior) (s t : State) → ((ms : List ViewStep) (ended : Bool) → A t ms ended → A' s (Env t ∷ ms) ended) → (ms : List ViewStep) (ended : Bool) → Then A B t ms ended → Then A' B s (Env t ∷ ms) ended
then_env A A' B s t h ms ended (Within a) = Within (h ms false a)
then_env A A' B s t h ms ended (Past before rest e a b) = Past (Env t ∷ before) rest (ap (λ l. Env t ∷ l) e) (h before true a) b

pub then_own : (A A' B : Behavior) (s t : State) → ((ms : List ViewStep) (ended : Bool) → A t ms ended → A' s (Own t ∷ ms) ended) → (ms : List ViewStep) (ended : Bool) → Then A B t ms ended → Then A' B s (Own t ∷ ms) ended
then_own A A' B s t h ms ended (Within a) = Within (h ms false a)
then_own A A' B s t h ms ended (Past before rest e a b) = Past (Own t ∷ before) rest (ap (λ l. Own t ∷ l) e) (h before true a) b

all_env_append : (xs ys : List ViewStep) → AllEnv xs → AllEnv ys → AllEnv (xs ++ ys)
all_env_append [] ys a b = b
all_env_append (Own t ∷ xs) ys a b = absurd a
all_env_append (Env t ∷ xs) ys a b = all_env_append xs ys a b

-- an ended run goes on with steps of the environment
abbrev pub Tails : Behavior → Type 0
Tails A = (s : State) (before rest : List ViewStep) → A s before true → AllEnv rest → A s (before ++ rest) true

atomic_tails : (b : State → Bool) (f : State → State) → Tails (Atomic b f)
atomic_tails b f s [] rest a env = cc a
atomic_tails b f s (Env t ∷ before) rest a env = atomic_tails b f t before rest a env
atomic_tails b f s (Own t ∷ before) rest a env =
    record { test = a.test; result = a.result; rest = all_env_append before rest a.rest env; over = refl }

then_tails : (A B : Behavior) → Tails B → Tails (Then A B)
then_tails A B h s all rest (Past before inner e a b) env =
    Past before (inner ++ rest) (ap (λ l. l ++ rest) e ∙ append_assoc before inner rest) a (h (last s before) inner rest b env)

tests_tails : (b : State → Bool) (A B : Behavior) → Tails A → Tails B → (s t : State) (before rest : List ViewStep) → Tests b A B s t before true → AllEnv rest → Tests b A B s t (before ++ rest) true
tests_tails b A B ha hb s t before rest (Yes e h a) env = Yes e h (ha t before rest a env)
tests_tails b A B ha hb s t before rest (No e h a) env = No e h (hb t before rest a env)

choice_tails : (b : State → Bool) (A B : Behavior) → Tails A → Tails B → Tails (Choice b A B)
choice_tails b A B ha hb s [] rest a env = cc a
choice_tails b A B ha hb s (Env t ∷ before) rest a env = choice_tails b A B ha hb t before rest a env
choice_tails b A B ha hb s (Own t ∷ before) rest a env = tests_tails b A B ha hb s t before rest a env

loop_tails : (b : State → Bool) (A : Behavior) → (s : State) (ms : List ViewStep) (ended : Bool) → Loop b A s ms ended → ended ≡ true → (rest : List ViewStep) → AllEnv rest → Loop b A s (ms ++ rest) true
loop_tails b A s ms ended Idle z rest env = cc z
loop_tails b A s ms ended (Wait {t = t} {ms = inner} run) z rest env = Wait (loop_tails b A t inner ended run z rest env)
loop_tails b A s ms ended (Leave {ms = inner} e h a) z rest env = Leave e h (all_env_append inner rest a env)
loop_tails b A s ms ended (Inner e h a) z rest env = cc z
loop_tails b A s ms ended (Again {t = t} before inner e h q a run) z rest env =
    Again before (inner ++ rest) e h (ap (λ l. l ++ rest) q ∙ append_assoc before inner rest) a (loop_tails b A (last t before) inner ended run z rest env)

mutual
  pub runs_tails : (s : Statement) → Tails (runs s)
  runs_tails (skip n) = atomic_tails always (assigned [])
  runs_tails (assign n a) = atomic_tails always (assigned (a ∷ []))
  runs_tails (await n b act) = atomic_tails (holds_at b) (assigned act)
  runs_tails (sequence n s items) = then_tails (runs s) (runs_of_items items) (items_tails items)
  runs_tails (branch n b s t) = choice_tails (holds_at b) (runs s) (runs t) (runs_tails s) (runs_tails t)
  runs_tails (loop n b s) = λ x ms rest a env. loop_tails (holds_at b) (runs s) x ms true a refl rest env

  items_tails : (items : Items) → Tails (runs_of_items items)
  items_tails (one s) = runs_tails s
  items_tails (more s items) = then_tails (runs s) (runs_of_items items) (items_tails items)
