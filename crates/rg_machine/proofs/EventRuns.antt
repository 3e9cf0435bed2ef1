-- What is replayed is a run of the code.
use Rattle.std.proofs.Common.{◌≡◌, ℕ, zero, suc, ◌+◌, ◌<◌, ◌≤◌, Bool, List, [], ◌∷◌, length, map, refl, sym, subst, ap, ◌∙◌, arith}
use Rattle.rg_words.specs.Layout.{Word}
use Rattle.rg_words.specs.States.{IsState, IsPair}
use Rattle.rg_tree.specs.Traces.{State, Step, IsTraceOf, last_of}
use Rattle.rg_code.specs.Code.{BlockTree, PlacesGo, AllCodeRuns, all_at_end, zeros, IsCodeRun}
use Rattle.rg_machine.specs.Machine.{Configuration, IsStepOf}
use Rattle.rg_machine.specs.Replay.{Happening, by_part, by_environment, Leads, Replays}
use Rattle.rg_machine.specs.EventRuns.{who_of, AreMade, IsRunOf, ReplaysAreRuns}

length-zeros : (cs : List (List BlockTree)) → length (zeros cs) ≡ length cs
length-zeros [] = refl
length-zeros (c ∷ cs) = ap suc (length-zeros cs)

length-places : (i : ℕ) (cs : List (List BlockTree)) (ks ks' : List ℕ) (s : State) (x : Step) → PlacesGo i cs ks ks' s x → length ks' ≡ length cs
length-places i [] [] [] s x g = refl
length-places i (c ∷ cs) (k ∷ ks) (k' ∷ ks') s x g = ap suc (length-places (suc i) cs ks ks' s x g.2)
length-places i _ _ _ s x g = absurd g

-- a step of nobody below i leaves all places from i on
all_stay : (i : ℕ) (cs : List (List BlockTree)) (ks : List ℕ) (s : State) (x : Step) → length ks ≡ length cs → x.who < i → PlacesGo i cs ks ks s x
all_stay i [] [] s x e less = tt
all_stay i (c ∷ cs) (k ∷ ks) s x e less = ((λ w. absurd (omega (arith, w))), (λ ne. refl), all_stay (suc i) cs ks s x (omega (arith, e)) (omega arith))
all_stay i [] (k ∷ ks) s x e less = absurd (omega (arith, e))
all_stay i (c ∷ cs) [] s x e less = absurd (omega (arith, e))

-- steps from a configuration, of the makers of these events, up to another
record Made (words : List Word) (codes : List (List BlockTree)) (places : List ℕ) (s : State) (es : List Happening) (d : Configuration) : Type 0 where
  steps : List Step
  makers : map (λ (x : Step). x.who) steps ≡ map who_of es
  last : last_of s steps ≡ d.state
  trace : IsTraceOf words (length codes) s steps
  run : AllCodeRuns codes places s steps (all_at_end codes d.places)

-- one step in front
front : (c m d : Configuration) (who : ℕ) (e : Happening) (es : List Happening) → who ≡ who_of e → who ≤ length c.codes → m.words ≡ c.words → m.codes ≡ c.codes → PlacesGo 1 c.codes c.places m.places c.state (record { who = who; after = m.state }) → IsPair c.words c.state m.state → Made m.words m.codes m.places m.state es d → Made c.words c.codes c.places c.state (e ∷ es) d
front c m d who e es is most w k goes pair rest =
    let rest' = subst (λ cs. Made c.words cs m.places m.state es d) k (subst (λ ws. Made ws m.codes m.places m.state es d) w rest) in
    record {
      steps = record { who = who; after = m.state } ∷ rest'.steps;
      makers = (λ i. is i ∷ rest'.makers i);
      last = rest'.last;
      trace = (most, pair, rest'.trace);
      run = (m.places, goes, rest'.run);
    }

made : (c d : Configuration) (es : List Happening) → IsState c.words c.state → length c.places ≡ length c.codes → AreMade (length c.codes) es → Replays c es d → Made c.words c.codes c.places c.state es d
made c d [] st size fits h = record {
  steps = [];
  makers = refl;
  last = ap (λ x. x.state) (sym h);
  trace = st;
  run = ap (λ x. all_at_end c.codes x.places) h;
}
made c d (by_part i ∷ es) st size fits h =
    let m = h.0 in
    let step = h.1 in
    let n = ap (λ cs. length {A = List BlockTree} cs) step.codes in
    let places = length-places 1 c.codes c.places m.places c.state _ step.goes in
    let st' = subst (λ ws. IsState ws m.state) (sym step.words) step.pair.second in
    let fits' = subst (λ k. AreMade k es) (sym n) fits.1 in
    front c m d i (by_part i) es refl fits.0.1 step.words step.codes step.goes step.pair (made m d es st' (places ∙ sym n) fits' h.2)
made c d (by_environment t ∷ es) st size fits h =
    let m = h.0 in
    let move = h.1 in
    let n = ap (λ cs. length {A = List BlockTree} cs) move.codes in
    let pair = subst (λ x. IsPair c.words c.state x) (sym move.state) move.pair in
    let st' = subst (λ ws. IsState ws m.state) (sym move.words) pair.second in
    let fits' = subst (λ k. AreMade k es) (sym n) fits.1 in
    let x : Step = record { who = 0; after = m.state } in
    let goes = subst (λ ks. PlacesGo 1 c.codes c.places ks c.state x) (sym move.places) (all_stay 1 c.codes c.places c.state x size (omega arith)) in
    front c m d 0 (by_environment t) es refl (omega arith) move.words move.codes goes pair (made m d es st' (ap (λ ks. length {A = ℕ} ks) move.places ∙ size ∙ sym n) fits' h.2)

pub replays_are_runs : ReplaysAreRuns
replays_are_runs c d es st first fits h =
    let size = ap (λ ks. length {A = ℕ} ks) first ∙ length-zeros c.codes in
    let r = made c d es st size fits h in
    record {
      steps = r.steps;
      makers = r.makers;
      last = r.last;
      run = record { trace = r.trace; run = subst (λ ks. AllCodeRuns c.codes ks c.state r.steps (all_at_end c.codes d.places)) first r.run };
    }
