-- One lemma for each rule: where its conditions are true, what it concludes is sound.
use Rattle.std.proofs.Common.{◌≡◌, Bool, true, false, List, [], ◌∷◌, inr, refl, sym, subst, ⊎_elim}
use Rattle.rg_words.specs.Layout.{Word}
use Rattle.rg_words.specs.States.{IsState, IsPair}
use Rattle.rg_tree.specs.Traces.{State, ViewStep, Own, Env, last, IsTrace, Inside, EnvInside}
use Rattle.rg_tree.specs.Runs.{Behavior, AllEnv, Once, Acts, Atomic, Then, Within, Past, Tests, Yes, No, Choice, Loop, Idle, Wait, Leave, Inner, Again}
use Rattle.rg_tree.specs.RuleConditions.{IsStable, StepsInside}
use Rattle.rg_tree.proofs.Asked.{inside_more}
use Rattle.rg_tree.proofs.Guards.{Guards, Sound, trace_state, trace_front, trace_back, last-append, last_state, env_front, env_back, guards_join, all_env_guards}

pub stable_step : (words : List Word) (p : State → Bool) (R : State → State → Bool) → IsStable words p R → (s t : State) → IsPair words s t → p s ≡ true → Inside R s t → p t ≡ true
stable_step words p R st s t pair at h =
    ⊎_elim (λ r. st s t pair at r) (λ e. subst (λ x. p x ≡ true) (sym e) at) h

-- steps of the environment alone keep what is stable
pub all_env_ends : (words : List Word) (q : State → Bool) (R : State → State → Bool) → IsStable words q R → (s : State) (ms : List ViewStep) → AllEnv ms → IsTrace words s ms → q s ≡ true → EnvInside R s ms → q (last s ms) ≡ true
all_env_ends words q R st s [] a tr at e = at
all_env_ends words q R st s (Own t ∷ ms) a tr at e = absurd a
all_env_ends words q R st s (Env t ∷ ms) a tr at e =
    all_env_ends words q R st t ms a tr.1 (stable_step words q R st s t tr.0 at e.0) e.1

module _ (words : List Word) (p : State → Bool) (R G : State → State → Bool) (q : State → Bool) where
  -- what is owed of a run that makes one own step and goes on
  once_guards : (next : State → State → List ViewStep → Bool → Type 0) → IsStable words p R → ((s t : State) (ms : List ViewStep) (ended : Bool) → next s t ms ended → IsPair words s t → IsTrace words t ms → p s ≡ true → Inside G s t × Guards R G t ms) → (s : State) (ms : List ViewStep) (ended : Bool) → Once next s ms ended → IsTrace words s ms → p s ≡ true → Guards R G s ms
  once_guards next st h s [] ended run tr at = tt
  once_guards next st h s (Own t ∷ ms) ended run tr at = h s t ms ended run tr.0 tr.1 at
  once_guards next st h s (Env t ∷ ms) ended run tr at =
      λ r. once_guards next st h t ms ended run tr.1 (stable_step words p R st s t tr.0 at r)

  once_ends : (next : State → State → List ViewStep → Bool → Type 0) → IsStable words p R → ((s t : State) (ms : List ViewStep) → next s t ms true → IsPair words s t → IsTrace words t ms → p s ≡ true → EnvInside R t ms → q (last t ms) ≡ true) → (s : State) (ms : List ViewStep) → Once next s ms true → IsTrace words s ms → p s ≡ true → EnvInside R s ms → q (last s ms) ≡ true
  once_ends next st h s [] run tr at env = cc
  once_ends next st h s (Own t ∷ ms) run tr at env = h s t ms run tr.0 tr.1 at env
  once_ends next st h s (Env t ∷ ms) run tr at env =
      once_ends next st h t ms run tr.1 (stable_step words p R st s t tr.0 at env.0) env.1

  pub atomic_sound : (b : State → Bool) (f : State → State) → ((s : State) → IsState words s → p s ≡ true → b s ≡ true → q (f s) ≡ true) → ((s : State) → IsState words s → IsPair words s (f s) → p s ≡ true → b s ≡ true → Inside G s (f s)) → IsStable words p R → IsStable words q R → Sound words p R G q (Atomic b f)
  atomic_sound b f reach step p_stable q_stable = record {
    guards = once_guards (Acts b f) p_stable (λ s t ms ended a pair tr at. (rw a.result (step s pair.first (subst (λ x. IsPair words s x) a.result pair) at a.test), all_env_guards R G t ms a.rest));
    ends = once_ends (Acts b f) p_stable (λ s t ms a pair tr at env. all_env_ends words q R q_stable t ms a.rest tr (rw a.result (reach s pair.first at a.test)) env);
  }

  pub then_sound : (m : State → Bool) (A B : Behavior) → Sound words p R G m A → Sound words m R G q B → Sound words p R G q (Then A B)
  then_sound m A B first second = record { guards = guards; ends = λ s ms run tr at env. ends s ms true run refl tr at env }
    where
      guards : (s : State) (ms : List ViewStep) (ended : Bool) → Then A B s ms ended → IsTrace words s ms → p s ≡ true → Guards R G s ms
      guards s ms ended (Within a) tr at = first.guards s ms false a tr at
      guards s ms ended (Past before rest e a b) tr at =
          let tr' = subst (λ l. IsTrace words s l) e tr in
          subst (λ l. Guards R G s l) (sym e) (guards_join R G s before rest (first.guards s before true a (trace_front words s before rest tr') at) (λ env. second.guards (last s before) rest ended b (trace_back words s before rest tr') (first.ends s before a (trace_front words s before rest tr') at env)))

      ends : (s : State) (ms : List ViewStep) (ended : Bool) → Then A B s ms ended → ended ≡ true → IsTrace words s ms → p s ≡ true → EnvInside R s ms → q (last s ms) ≡ true
      ends s ms ended (Within a) over tr at env = cc
      ends s ms ended (Past before rest e a b) over tr at env =
          let tr' = subst (λ l. IsTrace words s l) e tr in
          let env' = subst (λ l. EnvInside R s l) e env in
          let mid = first.ends s before a (trace_front words s before rest tr') at (env_front R s before rest env') in
          let b' = subst (λ x. B (last s before) rest x) over b in
          subst (λ l. q (last s l) ≡ true) (sym e) (rw last-append (second.ends (last s before) rest b' (trace_back words s before rest tr') mid (env_back R s before rest env')))

  pub choice_sound : (b : State → Bool) (p_yes p_no : State → Bool) (A B : Behavior) → ((s : State) → p s ≡ true → b s ≡ true → p_yes s ≡ true) → ((s : State) → p s ≡ true → b s ≡ false → p_no s ≡ true) → IsStable words p R → Sound words p_yes R G q A → Sound words p_no R G q B → Sound words p R G q (Choice b A B)
  choice_sound b p_yes p_no A B to_yes to_no p_stable on_yes on_no = record {
    guards = once_guards (Tests b A B) p_stable guards;
    ends = once_ends (Tests b A B) p_stable (λ s t ms run. ends s t ms true run refl);
  }
    where
      guards : (s t : State) (ms : List ViewStep) (ended : Bool) → Tests b A B s t ms ended → IsPair words s t → IsTrace words t ms → p s ≡ true → Inside G s t × Guards R G t ms
      guards s t ms ended (Yes e h a) pair tr at = (inr e, on_yes.guards t ms ended a tr (rw e (to_yes s at h)))
      guards s t ms ended (No e h a) pair tr at = (inr e, on_no.guards t ms ended a tr (rw e (to_no s at h)))

      ends : (s t : State) (ms : List ViewStep) (ended : Bool) → Tests b A B s t ms ended → ended ≡ true → IsPair words s t → IsTrace words t ms → p s ≡ true → EnvInside R t ms → q (last t ms) ≡ true
      ends s t ms ended (Yes e h a) over pair tr at env = on_yes.ends t ms (subst (λ x. A t ms x) over a) tr (rw e (to_yes s at h)) env
      ends s t ms ended (No e h a) over pair tr at env = on_no.ends t ms (subst (λ x. B t ms x) over a) tr (rw e (to_no s at h)) env

  pub loop_sound : (b : State → Bool) (p_yes : State → Bool) (A : Behavior) → ((s : State) → p s ≡ true → b s ≡ true → p_yes s ≡ true) → IsStable words p R → ((s : State) → IsState words s → p s ≡ true → b s ≡ false → q s ≡ true) → IsStable words q R → Sound words p_yes R G p A → Sound words p R G q (Loop b A)
  loop_sound b p_yes A to_yes p_stable exit q_stable body = record {
    guards = guards;
    ends = λ s ms run. ends s ms true run refl;
  }
    where
      guards : (s : State) (ms : List ViewStep) (ended : Bool) → Loop b A s ms ended → IsTrace words s ms → p s ≡ true → Guards R G s ms
      guards s ms ended Idle tr at = tt
      guards s ms ended (Wait {t = t} {ms = rest} run) tr at = λ r. guards t rest ended run tr.1 (stable_step words p R p_stable s t tr.0 at r)
      guards s ms ended (Leave {t = t} {ms = rest} e h a) tr at = (inr e, all_env_guards R G t rest a)
      guards s ms ended (Inner {t = t} {ms = rest} e h a) tr at = (inr e, body.guards t rest false a tr.1 (rw e (to_yes s at h)))
      guards s ms ended (Again {t = t} {ms = all} before rest e h j a run) tr at =
          let tr' = subst (λ l. IsTrace words t l) j tr.1 in
          let at' : p_yes t ≡ true = rw e (to_yes s at h) in
          (inr e, subst (λ l. Guards R G t l) (sym j) (guards_join R G t before rest (body.guards t before true a (trace_front words t before rest tr') at') (λ env. guards (last t before) rest ended run (trace_back words t before rest tr') (body.ends t before a (trace_front words t before rest tr') at' env))))

      ends : (s : State) (ms : List ViewStep) (ended : Bool) → Loop b A s ms ended → ended ≡ true → IsTrace words s ms → p s ≡ true → EnvInside R s ms → q (last s ms) ≡ true
      ends s ms ended Idle over tr at env = cc
      ends s ms ended (Wait {t = t} {ms = rest} run) over tr at env = ends t rest ended run over tr.1 (stable_step words p R p_stable s t tr.0 at env.0) env.1
      ends s ms ended (Leave {t = t} {ms = rest} e h a) over tr at env = all_env_ends words q R q_stable t rest a tr.1 (rw e (exit s tr.0.first at h)) env
      ends s ms ended (Inner {t = t} {ms = rest} e h a) over tr at env = cc
      ends s ms ended (Again {t = t} {ms = all} before rest e h j a run) over tr at env =
          let tr' = subst (λ l. IsTrace words t l) j tr.1 in
          let env' = subst (λ l. EnvInside R t l) j env in
          let at' : p_yes t ≡ true = rw e (to_yes s at h) in
          let mid = body.ends t before a (trace_front words t before rest tr') at' (env_front R t before rest env') in
          subst (λ l. q (last t l) ≡ true) (sym j) (rw last-append (ends (last t before) rest ended run over (trace_back words t before rest tr') mid (env_back R t before rest env')))

pub env_more : (words : List Word) (R S : State → State → Bool) → StepsInside words R S → (s : State) (ms : List ViewStep) → IsTrace words s ms → EnvInside R s ms → EnvInside S s ms
env_more words R S le s [] tr e = tt
env_more words R S le s (Own t ∷ ms) tr e = env_more words R S le t ms tr.1 e
env_more words R S le s (Env t ∷ ms) tr e = (inside_more words R S le s t tr.0 e.0, env_more words R S le t ms tr.1 e.1)

pub guards_more : (words : List Word) (R R_in G_in G : State → State → Bool) → StepsInside words R R_in → StepsInside words G_in G → (s : State) (ms : List ViewStep) → IsTrace words s ms → Guards R_in G_in s ms → Guards R G s ms
guards_more words R R_in G_in G r g s [] tr h = tt
guards_more words R R_in G_in G r g s (Own t ∷ ms) tr h = (inside_more words G_in G g s t tr.0 h.0, guards_more words R R_in G_in G r g t ms tr.1 h.1)
guards_more words R R_in G_in G r g s (Env t ∷ ms) tr h = λ e. guards_more words R R_in G_in G r g t ms tr.1 (h (inside_more words R R_in r s t tr.0 e))

pub conseq_sound : (words : List Word) (p p_in : State → Bool) (R R_in G_in G : State → State → Bool) (q_in q : State → Bool) (B : Behavior) → ((s : State) → IsState words s → p s ≡ true → p_in s ≡ true) → StepsInside words R R_in → StepsInside words G_in G → ((s : State) → IsState words s → q_in s ≡ true → q s ≡ true) → Sound words p_in R_in G_in q_in B → Sound words p R G q B
conseq_sound words p p_in R R_in G_in G q_in q B pre rely guar post h = record {
  guards = λ s ms ended run tr at. guards_more words R R_in G_in G rely guar s ms tr (h.guards s ms ended run tr (pre s (trace_state words s ms tr) at));
  ends = λ s ms run tr at env. post (last s ms) (last_state words s ms tr) (h.ends s ms run tr (pre s (trace_state words s ms tr) at) (env_more words R R_in rely s ms tr env));
}
