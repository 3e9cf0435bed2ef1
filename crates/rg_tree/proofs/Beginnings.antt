-- Each beginning of a run is a run, a trace has one flag at most, and a statement that satisfies its formulas guards each own step at once. By way of following, which a trace determines.
use Rattle.std.proofs.Common.{◌≡◌, ℕ, suc, Bool, true, List, [], ◌∷◌, ◌++◌, length, Option, Some, None, refl, sym, subst, ap, ◌∙◌, append_assoc}
use Rattle.std.specs.Prelude.{option_and_then}
use Rattle.rg_words.specs.Layout.{Word}
use Rattle.rg_tree.specs.Statements.{Statement, PartTree, ProgramTree}
use Rattle.rg_tree.specs.Traces.{State, ViewStep, Own, Env, Step, view_step, view, last, IsTrace, IsTraceOf, EnvInside, OwnInside}
use Rattle.rg_tree.specs.Runs.{runs}
use Rattle.rg_tree.specs.Following.{followed, step_of_all, is_done}
use Rattle.rg_tree.specs.Satisfaction.{BehaviorSatisfies, StatementSatisfies}
use Rattle.rg_tree.specs.Programs.{ViewsRun, all_true, IsRun, BeginningsRun, OneFlag}
use Rattle.rg_tree.proofs.Guards.{Guards, Sound, StatementSound, last-append}
use Rattle.rg_tree.proofs.Follows.{following_decides, some_of}

followed_beginning : (todo : List Statement) (s : State) (xs ys : List ViewStep) (ended : Bool) → followed todo s (xs ++ ys) ≡ Some ended → (e : Bool) × (followed todo s xs ≡ Some e)
followed_beginning todo s [] ys ended h = (is_done todo, refl)
followed_beginning todo s (Env t ∷ xs) ys ended h = followed_beginning todo t xs ys ended h
followed_beginning todo s (Own t ∷ xs) ys ended h =
    let step = some_of (λ k. followed k t (xs ++ ys)) (step_of_all todo s t) ended h in
    let rest = followed_beginning step.0 t xs ys ended step.2 in
    (rest.0, ap (λ o. option_and_then (λ k. followed k t xs) o) step.1 ∙ rest.1)

pub runs_beginning : (s : Statement) (st : State) (xs ys : List ViewStep) (ended : Bool) → runs s st (xs ++ ys) ended → (e : Bool) × runs s st xs e
runs_beginning s st xs ys ended r =
    let h = followed_beginning (s ∷ []) st xs ys ended ((following_decides s st (xs ++ ys) ended).1 r) in
    (h.0, (following_decides s st xs h.0).0 h.1)

pub runs_flag : (s : Statement) (st : State) (ms : List ViewStep) (e e' : Bool) → runs s st ms e → runs s st ms e' → e ≡ e'
runs_flag s st ms e e' r r' =
    let h = (following_decides s st ms e).1 r in
    let h' = (following_decides s st ms e').1 r' in
    let same : Some e ≡ Some e' = sym h ∙ h' in
    cc

-- the same of programs

view-append : (i : ℕ) (xs ys : List Step) → view i (xs ++ ys) ≡ view i xs ++ view i ys
view-append i [] ys = refl
view-append i (x ∷ xs) ys = ap (λ l. view_step i x ∷ l) (view-append i xs ys)

views_beginning : (i : ℕ) (ps : List PartTree) (es : List Bool) (s : State) (xs ys : List Step) → ViewsRun i ps es s (xs ++ ys) → (es' : List Bool) × ViewsRun i ps es' s xs
views_beginning i [] [] s xs ys v = ([], tt)
views_beginning i (p ∷ ps) (e ∷ es) s xs ys v =
    let h = runs_beginning p.body s (view i xs) (view i ys) e (subst (λ l. runs p.body s l e) (view-append i xs ys) v.0) in
    let r = views_beginning (suc i) ps es s xs ys v.1 in
    (h.0 ∷ r.0, (h.1, r.1))
views_beginning i [] (e ∷ es) s xs ys v = absurd v
views_beginning i (p ∷ ps) [] s xs ys v = absurd v

trace_beginning : (words : List Word) (n : ℕ) (s : State) (xs ys : List Step) → IsTraceOf words n s (xs ++ ys) → IsTraceOf words n s xs
trace_beginning words n s [] [] tr = tr
trace_beginning words n s [] (y ∷ ys) tr = tr.1.first
trace_beginning words n s (x ∷ xs) ys tr = (tr.0, tr.1, trace_beginning words n x.after xs ys tr.2)

pub beginning : (program : ProgramTree) (s : State) (xs ys : List Step) (ended : Bool) → IsRun program s (xs ++ ys) ended → (e : Bool) × IsRun program s xs e
beginning program s xs ys ended r =
    let h = views_beginning 1 program.parts r.flags s xs ys r.views in
    (all_true h.0, record { trace = trace_beginning program.words (length program.parts) s xs ys r.trace; flags = h.0; views = h.1; over = refl })

views_flags : (i : ℕ) (ps : List PartTree) (es es' : List Bool) (s : State) (xs : List Step) → ViewsRun i ps es s xs → ViewsRun i ps es' s xs → es ≡ es'
views_flags i [] [] [] s xs v v' = refl
views_flags i (p ∷ ps) (e ∷ es) (e' ∷ es') s xs v v' =
    let h = runs_flag p.body s (view i xs) e e' v.0 v'.0 in
    let r = views_flags (suc i) ps es es' s xs v.1 v'.1 in
    cc
views_flags i [] (e ∷ es) es' s xs v v' = absurd v
views_flags i [] [] (e ∷ es') s xs v v' = absurd v'
views_flags i (p ∷ ps) [] es' s xs v v' = absurd v
views_flags i (p ∷ ps) (e ∷ es) [] s xs v v' = absurd v'

pub one_flag : (program : ProgramTree) (s : State) (xs : List Step) (e e' : Bool) → IsRun program s xs e → IsRun program s xs e' → e ≡ e'
one_flag program s xs e e' r r' =
    r.over ∙ ap all_true (views_flags 1 program.parts r.flags r'.flags s xs r.views r'.views) ∙ sym r'.over

-- what is satisfied, of a statement, is guarded step by step

own_back : (G : State → State → Bool) (s : State) (xs ys : List ViewStep) → OwnInside G s (xs ++ ys) → OwnInside G (last s xs) ys
own_back G s [] ys h = h
own_back G s (Own t ∷ xs) ys h = own_back G t xs ys h.1
own_back G s (Env t ∷ xs) ys h = own_back G t xs ys h

env_join : (R : State → State → Bool) (s : State) (xs ys : List ViewStep) → EnvInside R s xs → EnvInside R (last s xs) ys → EnvInside R s (xs ++ ys)
env_join R s [] ys a b = b
env_join R s (Own t ∷ xs) ys a b = env_join R t xs ys a b
env_join R s (Env t ∷ xs) ys a b = (a.0, env_join R t xs ys a.1 b)

trace_first : (words : List Word) (s : State) (xs ys : List ViewStep) → IsTrace words s (xs ++ ys) → IsTrace words s xs
trace_first words s [] [] tr = tr
trace_first words s [] (Own t ∷ ys) tr = tr.0.first
trace_first words s [] (Env t ∷ ys) tr = tr.0.first
trace_first words s (Own t ∷ xs) ys tr = (tr.0, trace_first words t xs ys tr.1)
trace_first words s (Env t ∷ xs) ys tr = (tr.0, trace_first words t xs ys tr.1)

module _ (words : List Word) (p : State → Bool) (R G : State → State → Bool) (q : State → Bool) (B : State → List ViewStep → Bool → Type 0) (begins : (s : State) (xs ys : List ViewStep) (ended : Bool) → B s (xs ++ ys) ended → (e : Bool) × B s xs e) (sat : BehaviorSatisfies words p R G q B) where
  guards_from : (s : State) (done rest : List ViewStep) (ended : Bool) → B s (done ++ rest) ended → IsTrace words s (done ++ rest) → p s ≡ true → EnvInside R s done → Guards R G (last s done) rest
  guards_from s done [] ended b tr at env = tt
  guards_from s done (Own t ∷ rest) ended b tr at env =
      let e = sym (append_assoc done (Own t ∷ []) rest) in
      let b' = subst (λ l. B s l ended) e b in
      let tr' = subst (λ l. IsTrace words s l) e tr in
      let so_far = begins s (done ++ Own t ∷ []) rest ended b' in
      let env' = env_join R s done (Own t ∷ []) env tt in
      let own = own_back G s done (Own t ∷ []) (sat.steps s (done ++ Own t ∷ []) so_far.0 so_far.1 (trace_first words s (done ++ Own t ∷ []) rest tr') at env') in
      (own.0, subst (λ x. Guards R G x rest) (last-append s done (Own t ∷ [])) (guards_from s (done ++ Own t ∷ []) rest ended b' tr' at env'))
  guards_from s done (Env t ∷ rest) ended b tr at env =
      let e = sym (append_assoc done (Env t ∷ []) rest) in
      λ r. subst (λ x. Guards R G x rest) (last-append s done (Env t ∷ [])) (guards_from s (done ++ Env t ∷ []) rest ended (subst (λ l. B s l ended) e b) (subst (λ l. IsTrace words s l) e tr) at (env_join R s done (Env t ∷ []) env (r, tt)))

  satisfies_sound : Sound words p R G q B
  satisfies_sound = record {
    guards = λ s ms ended b tr at. guards_from s [] ms ended b tr at tt;
    ends = sat.end;
  }

pub Satisfies-Sound : (words : List Word) (spec : _) (s : Statement) → StatementSatisfies words spec s → StatementSound words spec s
Satisfies-Sound words spec s sat = satisfies_sound words _ _ _ _ (runs s) (runs_beginning s) sat
