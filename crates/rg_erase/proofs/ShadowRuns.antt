-- The runs of what is left of a program are the shadows of its runs.
use Rattle.std.proofs.Common.{◌≡◌, ◌≢◌, ℕ, zero, suc, ◌≤◌, ◌<◌, Bool, true, false, ◌&&◌, ◌==◌, List, [], ◌∷◌, length, map, Some, None, refl, sym, ap, ◌∙◌, subst, inl, inr, ◌⊎◌, ⊎_elim, arith}
use Rattle.std.specs.Prelude.{slice_get}
use Rattle.std.proofs.lemmas.Bool.Decides.{eqb_tells}
use Rattle.rg_words.specs.Layout.{Word, widths_of}
use Rattle.rg_words.specs.States.{IsState, IsPair}
use Rattle.rg_tree.specs.Trees.{Proposition}
use Rattle.rg_tree.specs.Meaning.{holds}
use Rattle.rg_tree.specs.Typing.{IsTyped}
use Rattle.rg_tree.specs.Statements.{PartTree, ProgramTree}
use Rattle.rg_tree.specs.TypedPrograms.{IsTypedProgram}
use Rattle.rg_tree.specs.Traces.{State, Step, holds_at, Inside, IsTraceOf, last_of}
use Rattle.rg_tree.specs.Programs.{IsRun, OthersInside, PartsInside, IsSatisfied, nth}
use Rattle.rg_code.specs.Code.{BlockTree, Makes_step, is_end, PlacesGo, all_at_end, AllCodeRuns, zeros, program_code}
use Rattle.rg_code.proofs.Views.{compiler_is_right}
use Rattle.rg_erase.specs.Erased.{staying, conjuncts, kept, first_free, part_without, erased_program}
use Rattle.rg_erase.specs.Faults.{undefined, in_rely, fault_of}
use Rattle.rg_erase.specs.Shadows.{shadow, IsShadowOf, IsStartOf, AreShadows}
use Rattle.rg_erase.proofs.States.{staying_state, staying_pair}
use Rattle.rg_erase.proofs.Conjunctions.{kept_holds}
use Rattle.rg_erase.proofs.Left.{IsErasable, is_erasable}
use Rattle.rg_erase.proofs.Blocks.{AreShadowCodes, IsShadowBlock, shadow_at, program_shadow}
use Rattle.rg_erase.proofs.Lifts.{start_of, move_of}

module _ (words : List Word) (erased : List Bool) (own : ℕ) where
  -- a step of the code is a step of what is left of it
  goes_forth : (i : ℕ) (cs ds : List (List BlockTree)) (ks ks' : List ℕ) (s : State) (x : Step) → AreShadowCodes words erased own cs ds → IsState words s → PlacesGo i cs ks ks' s x → PlacesGo i ds ks ks' (staying erased s) (shadow erased x)
  goes_forth i [] [] [] [] s x a st g = tt
  goes_forth i (c ∷ cs) (d ∷ ds) (k ∷ ks) (k' ∷ ks') s x a st g =
      ((λ e. (shadow_at words erased c d k a.0).forth s x.after k' st (g.0 e)), g.1, goes_forth (suc i) cs ds ks ks' s x a.1 st g.2)
  goes_forth i [] (d ∷ ds) ks ks' s x a st g = absurd a
  goes_forth i (c ∷ cs) [] ks ks' s x a st g = absurd a
  goes_forth i _ _ _ _ s x a st g = absurd g

  ends_same : (cs ds : List (List BlockTree)) (ks : List ℕ) → AreShadowCodes words erased own cs ds → all_at_end cs ks ≡ all_at_end ds ks
  ends_same [] [] ks a = refl
  ends_same [] (d ∷ ds) ks a = absurd a
  ends_same (c ∷ cs) [] ks a = absurd a
  ends_same (c ∷ cs) (d ∷ ds) [] a = refl
  ends_same (c ∷ cs) (d ∷ ds) (k ∷ ks) a =
      ap (λ b. b && all_at_end cs ks) (shadow_at words erased c d k a.0).ends ∙ ap (λ b. is_end (slice_get d k) && b) (ends_same cs ds ks a.1)

  runs_forth : (n : ℕ) (cs ds : List (List BlockTree)) (ks : List ℕ) (s : State) (xs : List Step) (ended : Bool) → AreShadowCodes words erased own cs ds → IsTraceOf words n s xs → AllCodeRuns cs ks s xs ended → AllCodeRuns ds ks (staying erased s) (map (shadow erased) xs) ended
  runs_forth n cs ds ks s [] ended a t r = r ∙ ends_same cs ds ks a
  runs_forth n cs ds ks s (x ∷ xs) ended a t r =
      (r.0, goes_forth 1 cs ds ks r.0 s x a t.1.first r.1, runs_forth n cs ds r.0 x.after xs ended a t.2 r.2)

  trace_forth : (n : ℕ) (s : State) (xs : List Step) → IsTraceOf words n s xs → IsTraceOf (staying erased words) n (staying erased s) (map (shadow erased) xs)
  trace_forth n s [] t = staying_state erased words s t
  trace_forth n s (x ∷ xs) t = (t.0, staying_pair erased words s x.after t.1, trace_forth n x.after xs t.2)

  -- parts with greater numbers stay where they are
  goes_by_others : (j : ℕ) (cs ds : List (List BlockTree)) (ks ks' : List ℕ) (s : State) (y : Step) (t : State) → y.who < j → AreShadowCodes words erased own cs ds → PlacesGo j ds ks ks' (staying erased s) y → PlacesGo j cs ks ks' s (record { who = y.who; after = t })
  goes_by_others j [] [] [] [] s y t less a g = tt
  goes_by_others j (c ∷ cs) (d ∷ ds) (k ∷ ks) (k' ∷ ks') s y t less a g =
      ((λ e. absurd (omega (arith, e, less))), g.1, goes_by_others (suc j) cs ds ks ks' s y t (omega (arith, less)) a.1 g.2)
  goes_by_others j [] (d ∷ ds) ks ks' s y t less a g = absurd a
  goes_by_others j (c ∷ cs) [] ks ks' s y t less a g = absurd a
  goes_by_others j _ _ _ _ s y t less a g = absurd g

  -- a step of one of these parts, numbered from i, is what stays of a step of the code; and one of nobody here is so, whatever stays of it
  record Back (i : ℕ) (cs : List (List BlockTree)) (ks ks' : List ℕ) (s : State) (y : Step) : Type 0 where
    after : State
    some : 1 ≤ y.who
    stays : staying erased after ≡ y.after
    pair : IsPair words s after
    goes : PlacesGo i cs ks ks' s (record { who = y.who; after = after })

  abbrev Nobody : ℕ → List (List BlockTree) → List ℕ → List ℕ → State → Step → Type 0
  Nobody i cs ks ks' s y = (t : State) → PlacesGo i cs ks ks' s (record { who = y.who; after = t })

  own_step : (i : ℕ) (c d : List BlockTree) (cs ds : List (List BlockTree)) (k k' : ℕ) (ks ks' : List ℕ) (s : State) (y : Step) → 1 ≤ i → y.who ≡ i → IsShadowBlock words erased (slice_get c k) (slice_get d k) → AreShadowCodes words erased own cs ds → IsState words s → Makes_step (slice_get d k) (staying erased s) y.after k' → PlacesGo (suc i) ds ks ks' (staying erased s) y → Back i (c ∷ cs) (k ∷ ks) (k' ∷ ks') s y
  own_step i c d cs ds k k' ks ks' s y least e block a st made g =
      let step = block.back s y.after k' st made in
      record {
        after = step.after;
        some = omega (arith, e, least);
        stays = step.stays;
        pair = step.pair;
        goes = ((λ _. step.makes), (λ ne. absurd (ne e)), goes_by_others (suc i) cs ds ks ks' s y step.after (omega (arith, e)) a g);
      }

  other_step : (i : ℕ) (c : List BlockTree) (cs : List (List BlockTree)) (k k' : ℕ) (ks ks' : List ℕ) (s : State) (y : Step) → y.who ≢ i → k' ≡ k → Back (suc i) cs ks ks' s y ⊎ Nobody (suc i) cs ks ks' s y → Back i (c ∷ cs) (k ∷ ks) (k' ∷ ks') s y ⊎ Nobody i (c ∷ cs) (k ∷ ks) (k' ∷ ks') s y
  other_step i c cs k k' ks ks' s y ne same rest =
      ⊎_elim
      (λ (b : Back (suc i) cs ks ks' s y). inl (record { after = b.after; some = b.some; stays = b.stays; pair = b.pair; goes = ((λ e. absurd (ne e)), (λ _. same), b.goes) }))
      (λ (nobody : Nobody (suc i) cs ks ks' s y). inr (λ t. ((λ e. absurd (ne e)), (λ _. same), nobody t)))
      rest

  goes_back : (i : ℕ) (cs ds : List (List BlockTree)) (ks ks' : List ℕ) (s : State) (y : Step) → 1 ≤ i → AreShadowCodes words erased own cs ds → IsState words s → PlacesGo i ds ks ks' (staying erased s) y → Back i cs ks ks' s y ⊎ Nobody i cs ks ks' s y
  goes_back i [] [] [] [] s y least a st g = inr (λ t. tt)
  goes_back i (c ∷ cs) (d ∷ ds) (k ∷ ks) (k' ∷ ks') s y least a st g =
      by_test (y.who == i) (eqb_tells y.who i) (goes_back (suc i) cs ds ks ks' s y (omega arith) a.1 st g.2)
    where
      by_test : (b : Bool) → ((b ≡ true) × (y.who ≡ i)) ⊎ ((b ≡ false) × (y.who ≢ i)) → Back (suc i) cs ks ks' s y ⊎ Nobody (suc i) cs ks ks' s y → Back i (c ∷ cs) (k ∷ ks) (k' ∷ ks') s y ⊎ Nobody i (c ∷ cs) (k ∷ ks) (k' ∷ ks') s y
      by_test b t rest =
          ⊎_elim
          (λ l. inl (own_step i c d cs ds k k' ks ks' s y least l.1 (shadow_at words erased c d k a.0) a.1 st (g.0 l.1) g.2))
          (λ o. other_step i c cs k k' ks ks' s y o.1 (g.1 o.1) rest)
          t
  goes_back i [] (d ∷ ds) ks ks' s y least a st g = absurd a
  goes_back i (c ∷ cs) [] ks ks' s y least a st g = absurd a
  goes_back i _ _ _ _ s y least a st g = absurd g

  module _ (rely : Proposition) (defined : undefined erased (in_rely erased words) [] (conjuncts rely) ≡ None) (typed : IsTyped (widths_of words) rely) where
    abbrev kept_rely : State → State → Bool
    kept_rely = holds (kept erased rely)

    -- a run of what is left of the code, from what stays of this state
    record RunBack (n : ℕ) (cs : List (List BlockTree)) (ks : List ℕ) (s : State) (ys : List Step) (ended : Bool) : Type 0 where
      steps : List Step
      trace : IsTraceOf words n s steps
      run : AllCodeRuns cs ks s steps ended
      shadows : map (shadow erased) steps ≡ ys
      inside : OthersInside kept_rely (staying erased s) ys → OthersInside (holds rely) s steps

    -- the first step, with where it leads
    pub record First (cs : List (List BlockTree)) (ks ks' : List ℕ) (s : State) (y : Step) : Type 0 where
      pub after : State
      pub stays : staying erased after ≡ y.after
      pub pair : IsPair words s after
      pub goes : PlacesGo 1 cs ks ks' s (record { who = y.who; after = after })
      pub inside : (y.who ≡ 0 → Inside kept_rely (staying erased s) y.after) → y.who ≡ 0 → Inside (holds rely) s after

    pub first_step : (cs ds : List (List BlockTree)) (ks ks' : List ℕ) (s : State) (y : Step) → AreShadowCodes words erased own cs ds → IsState words s → IsPair (staying erased words) (staying erased s) y.after → PlacesGo 1 ds ks ks' (staying erased s) y → First cs ks ks' s y
    first_step cs ds ks ks' s y a st pair g =
        ⊎_elim
        (λ (b : Back 1 cs ks ks' s y). record { after = b.after; stays = b.stays; pair = b.pair; goes = b.goes; inside = λ h e. absurd (omega (arith, e, b.some)) })
        (λ (nobody : Nobody 1 cs ks ks' s y).
        let m = move_of erased words rely defined typed s y.after st pair in
        record { after = m.after; stays = m.stays; pair = m.pair; goes = nobody m.after; inside = λ h e. m.inside (h e) })
        (goes_back 1 cs ds ks ks' s y (omega arith) a st g)

    runs_back : (n : ℕ) (cs ds : List (List BlockTree)) (ks : List ℕ) (s : State) (ys : List Step) (ended : Bool) → AreShadowCodes words erased own cs ds → IsState words s → IsTraceOf (staying erased words) n (staying erased s) ys → AllCodeRuns ds ks (staying erased s) ys ended → RunBack n cs ks s ys ended
    runs_back n cs ds ks s [] ended a st t r = record {
      steps = [];
      trace = st;
      run = r ∙ sym (ends_same cs ds ks a);
      shadows = refl;
      inside = λ h. tt;
    }
    runs_back n cs ds ks s (y ∷ ys) ended a st t r =
        let f = first_step cs ds ks r.0 s y a st t.1 r.1 in
        let rest = runs_back n cs ds r.0 f.after ys ended a f.pair.second
        (subst (λ (u : State). IsTraceOf (staying erased words) n u ys) (sym f.stays) t.2)
        (subst (λ (u : State). AllCodeRuns ds r.0 u ys ended) (sym f.stays) r.2) in
        record {
          steps = record { who = y.who; after = f.after } ∷ rest.steps;
          trace = (t.0, f.pair, rest.trace);
          run = (r.0, f.goes, rest.run);
          shadows = ap (λ (u : State). record { who = y.who; after = u } ∷ map (shadow erased) rest.steps) f.stays ∙ ap (λ (zs : List Step). y ∷ zs) rest.shadows;
          inside = λ h. (f.inside h.0, rest.inside (subst (λ (u : State). OthersInside kept_rely u ys) (sym f.stays) h.1));
        }

-- what shadows of code have alike
pub same_zeros : (words : List Word) (erased : List Bool) (own : ℕ) (cs ds : List (List BlockTree)) → AreShadowCodes words erased own cs ds → zeros cs ≡ zeros ds
same_zeros words erased own [] [] a = refl
same_zeros words erased own [] (d ∷ ds) a = absurd a
same_zeros words erased own (c ∷ cs) [] a = absurd a
same_zeros words erased own (c ∷ cs) (d ∷ ds) a = ap (λ ks. 0 ∷ ks) (same_zeros words erased own cs ds a.1)

same_length : (words : List Word) (erased : List Bool) (own : ℕ) (cs ds : List (List BlockTree)) → AreShadowCodes words erased own cs ds → length cs ≡ length ds
same_length words erased own [] [] a = refl
same_length words erased own [] (d ∷ ds) a = absurd a
same_length words erased own (c ∷ cs) [] a = absurd a
same_length words erased own (c ∷ cs) (d ∷ ds) a = ap suc (same_length words erased own cs ds a.1)

pub trace_state : (words : List Word) (n : ℕ) (s : State) (xs : List Step) → IsTraceOf words n s xs → IsState words s
trace_state words n s [] t = t
trace_state words n s (x ∷ xs) t = t.1.first

module _ (erased : List Bool) (p : ProgramTree) (typed : IsTypedProgram p) (erasable : IsErasable erased p) where
  abbrev own : ℕ
  own = first_free (staying erased p.words)

  abbrev left : ProgramTree
  left = erased_program erased p

  codes : AreShadowCodes p.words erased own (program_code p.parts) (program_code left.parts)
  codes = program_shadow p.words erased own p.parts erasable.reads typed.parts

  shadow_forth : (s : State) (xs : List Step) (ended : Bool) → IsRun p s xs ended → IsRun left (staying erased s) (map (shadow erased) xs) ended
  shadow_forth s xs ended r =
      let run = (compiler_is_right p s xs ended).1 r in
      let cs = program_code p.parts in
      let ds = program_code left.parts in
      (compiler_is_right left (staying erased s) (map (shadow erased) xs) ended).0 (record {
        trace = subst (λ n. IsTraceOf left.words n (staying erased s) (map (shadow erased) xs)) (same_length p.words erased own cs ds codes) (trace_forth p.words erased own (length cs) s xs run.trace);
        run = subst (λ (ks : List ℕ). AllCodeRuns ds ks (staying erased s) (map (shadow erased) xs) ended) (same_zeros p.words erased own cs ds codes) (runs_forth p.words erased own (length cs) cs ds (zeros cs) s xs ended codes run.trace run.run);
      })

  shadow_back : (s : State) (ys : List Step) (ended : Bool) → IsState p.words s → IsRun left (staying erased s) ys ended → IsShadowOf erased p left s ys ended
  shadow_back s ys ended st r =
      let run = (compiler_is_right left (staying erased s) ys ended).1 r in
      let cs = program_code p.parts in
      let ds = program_code left.parts in
      let back = runs_back p.words erased own p.spec.rely erasable.rely typed.spec.1 (length cs) cs ds (zeros cs) s ys ended codes st
      (subst (λ n. IsTraceOf left.words n (staying erased s) ys) (sym (same_length p.words erased own cs ds codes)) run.trace)
      (subst (λ (ks : List ℕ). AllCodeRuns ds ks (staying erased s) ys ended) (sym (same_zeros p.words erased own cs ds codes)) run.run) in
      record {
        steps = back.steps;
        run = (compiler_is_right p s back.steps ended).0 (record { trace = back.trace; run = back.run });
        shadows = back.shadows;
        inside = back.inside;
      }

  shadow_start : (s : State) → IsState left.words s → holds_at left.spec.pre s ≡ true → IsStartOf erased p s
  shadow_start s st h =
      let start = start_of erased p.words p.spec.pre erasable.pre typed.spec.0.0 s st h in
      record { start = start.state; is_state = start.is_state; shadows = start.stays; inside = start.inside }

  pub are_shadows : AreShadows erased p left
  are_shadows = record { forth = shadow_forth; back = shadow_back; starts = shadow_start }

  -- a part that is left is what is left of a part
  pub part_left : (n : ℕ) (ps : List PartTree) (k : ℕ) (q : PartTree) → slice_get (map (part_without erased n) ps) k ≡ Some q → (r : PartTree) × (slice_get ps k ≡ Some r) × (part_without erased n r ≡ q)
  part_left n [] k q h = cc h
  part_left n (r ∷ ps) zero q h = let same : part_without erased n r ≡ q = cc h in (r, refl, same)
  part_left n (r ∷ ps) (suc k) q h = part_left n ps k q h

  numbered_left : (n : ℕ) (ps : List PartTree) (k : ℕ) (q : PartTree) → nth (map (part_without erased n) ps) k ≡ Some q → (r : PartTree) × (nth ps k ≡ Some r) × (part_without erased n r ≡ q)
  numbered_left n ps zero q h = cc h
  numbered_left n ps (suc k) q h = part_left n ps k q h

  inside_left : (f : Proposition) (s t : State) → Inside (holds f) s t → Inside (holds (kept erased f)) (staying erased s) (staying erased t)
  inside_left f s t h = ⊎_elim (λ truly. inl (kept_holds erased s t f truly)) (λ (same : t ≡ s). inr (ap (λ (u : State). staying erased u) same)) h

  parts_inside : (s : State) (xs : List Step) → PartsInside (holds p.spec.guar) p.parts s xs → PartsInside (holds left.spec.guar) left.parts (staying erased s) (map (shadow erased) xs)
  parts_inside s [] h = tt
  parts_inside s (x ∷ xs) h = (
    λ q e.
        let r = numbered_left own p.parts x.who q e in
        let inside = h.0 r.0 r.1 in
        (inside_left p.spec.guar s x.after inside.0, subst (λ (q : PartTree). Inside (holds q.spec.guar) (staying erased s) (staying erased x.after)) r.2 (inside_left r.0.spec.guar s x.after inside.1)),
    parts_inside x.after xs h.1,
  )

  last_left : (s : State) (xs : List Step) → last_of (staying erased s) (map (shadow erased) xs) ≡ staying erased (last_of s xs)
  last_left s [] = refl
  last_left s (x ∷ xs) = last_left x.after xs

  -- a run of what is left, from a state inside its pre, is what stays of one from a state inside the pre
  record Lifted (s : State) (ys : List Step) (ended : Bool) : Type 0 where
    first : State
    steps : List Step
    run : IsRun p first steps ended
    pre : holds_at p.spec.pre first ≡ true
    others : OthersInside (holds p.spec.rely) first steps
    from : staying erased first ≡ s
    shadows : map (shadow erased) steps ≡ ys

  lift : (s : State) (ys : List Step) (ended : Bool) → IsRun left s ys ended → holds_at left.spec.pre s ≡ true → OthersInside (holds left.spec.rely) s ys → Lifted s ys ended
  lift s ys ended r h o =
      let start = shadow_start s (trace_state left.words (length left.parts) s ys r.trace) h in
      let back = shadow_back start.start ys ended start.is_state (subst (λ (u : State). IsRun left u ys ended) (sym start.shadows) r) in
      record {
        first = start.start;
        steps = back.steps;
        run = back.run;
        pre = start.inside;
        others = back.inside (subst (λ (u : State). OthersInside (holds left.spec.rely) u ys) (sym start.shadows) o);
        from = start.shadows;
        shadows = back.shadows;
      }

  pub left_satisfied : IsSatisfied p → IsSatisfied left
  left_satisfied sat = record {
    steps = λ s ys ended r h o.
        let l = lift s ys ended r h o in
        let inside = parts_inside l.first l.steps (sat.steps l.first l.steps ended l.run l.pre l.others) in
        subst (λ (zs : List Step). PartsInside (holds left.spec.guar) left.parts s zs) l.shadows
        (subst (λ (u : State). PartsInside (holds left.spec.guar) left.parts u (map (shadow erased) l.steps)) l.from inside);
    end = λ s ys r h o.
        let l = lift s ys true r h o in
        let ended = sat.end l.first l.steps l.run l.pre l.others in
        let last = kept_holds erased (last_of l.first l.steps) (last_of l.first l.steps) p.spec.post ended in
        let at = sym (last_left l.first l.steps) ∙ ap (λ (u : State). last_of u (map (shadow erased) l.steps)) l.from ∙ ap (λ (zs : List Step). last_of s zs) l.shadows in
        subst (λ (u : State). holds_at left.spec.post u ≡ true) at last;
  }

-- what comes out of a program without a fault
pub comes_out_satisfied : (erased : List Bool) (p q : ProgramTree) → fault_of erased p ≡ None → IsTypedProgram p → q ≡ erased_program erased p → IsSatisfied p → IsSatisfied q
comes_out_satisfied erased p q h t e sat = subst IsSatisfied (sym e) (left_satisfied erased p t (is_erasable erased p h) sat)

pub comes_out_shadow : (erased : List Bool) (p q : ProgramTree) → fault_of erased p ≡ None → IsTypedProgram p → q ≡ erased_program erased p → AreShadows erased p q
comes_out_shadow erased p q h t e = subst (AreShadows erased p) (sym e) (are_shadows erased p t (is_erasable erased p h))
