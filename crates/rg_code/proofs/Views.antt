-- A run of the code is a run of each part's code, and these come together again.
use Rattle.std.proofs.Common.{◌≡◌, ◌≢◌, ℕ, suc, Bool, true, false, ◌&&◌, List, [], ◌∷◌, length, ◌⊎◌, refl, sym, subst, ap, ◌∙◌, ⊎_elim}
use Rattle.std.proofs.lemmas.Bool.Decides.{eqb_tells}
use Rattle.std.specs.Prelude.{slice_get, ◌==◌, if◌then◌else◌}
use Rattle.rg_tree.specs.Statements.{PartTree}
use Rattle.rg_tree.specs.Traces.{State, ViewStep, Own, Env, Step, view_step, view, IsTraceOf}
use Rattle.rg_tree.specs.Programs.{ViewsRun, all_true, IsRun}
use Rattle.rg_code.specs.Code.{BlockTree, Makes_step, is_end, PlacesGo, all_at_end, AllCodeRuns, zeros, IsCodeRun, program_code, CompilerIsRight}
use Rattle.rg_code.proofs.CodeOfStatements.{part_to, part_from, CodeRuns}

-- the view of each part, numbered from i, is a run of its code from its place
abbrev CodeViews : ℕ → List (List BlockTree) → List ℕ → List Bool → State → List Step → Type 0
CodeViews i [] [] [] s xs = Unit {0}
CodeViews i (c ∷ cs) (k ∷ ks) (e ∷ es) s xs = CodeRuns c k s (view i xs) e × CodeViews (suc i) cs ks es s xs
CodeViews i _ _ _ s xs = ⊥

-- one place for each code
abbrev Paired : List (List BlockTree) → List ℕ → Type 0
Paired [] [] = Unit {0}
Paired (c ∷ cs) (k ∷ ks) = Paired cs ks
Paired _ _ = ⊥

paired_zeros : (cs : List (List BlockTree)) → Paired cs (zeros cs)
paired_zeros [] = tt
paired_zeros (c ∷ cs) = paired_zeros cs

paired_after : (i : ℕ) (cs : List (List BlockTree)) (ks ks' : List ℕ) (s : State) (x : Step) → PlacesGo i cs ks ks' s x → Paired cs ks'
paired_after i [] [] [] s x g = tt
paired_after i (c ∷ cs) (k ∷ ks) (k' ∷ ks') s x g = paired_after (suc i) cs ks ks' s x g.2
paired_after i _ _ _ s x g = absurd g

ends_split : (i : ℕ) (cs : List (List BlockTree)) (ks : List ℕ) (s : State) → Paired cs ks → (es : List Bool) × CodeViews i cs ks es s [] × (all_at_end cs ks ≡ all_true es)
ends_split i [] [] s p = ([], tt, refl)
ends_split i (c ∷ cs) (k ∷ ks) s p =
    let r = ends_split (suc i) cs ks s p in
    (is_end (slice_get c k) ∷ r.0, (refl, r.1), ap (λ v. is_end (slice_get c k) && v) r.2)
ends_split i [] (k ∷ ks) s p = absurd p
ends_split i (c ∷ cs) [] s p = absurd p

ends_join : (i : ℕ) (cs : List (List BlockTree)) (ks : List ℕ) (es : List Bool) (s : State) → CodeViews i cs ks es s [] → all_true es ≡ all_at_end cs ks
ends_join i [] [] [] s v = refl
ends_join i (c ∷ cs) (k ∷ ks) (e ∷ es) s v =
    ap (λ a. a && all_true es) v.0 ∙ ap (λ a. is_end (slice_get c k) && a) (ends_join (suc i) cs ks es s v.1)
ends_join i _ _ _ s v = absurd v

-- one step in front of a view
front_split : (i : ℕ) (c : List BlockTree) (k k' : ℕ) (e : Bool) (s : State) (x : Step) (ms : List ViewStep) → (x.who ≡ i → Makes_step (slice_get c k) s x.after k') → (x.who ≢ i → k' ≡ k) → CodeRuns c k' x.after ms e → CodeRuns c k s (view_step i x ∷ ms) e
front_split i c k k' e s x ms own other r = by_test (x.who == i) (eqb_tells x.who i)
  where
    by_test : (b : Bool) → ((b ≡ true) × (x.who ≡ i)) ⊎ ((b ≡ false) × (x.who ≢ i)) → CodeRuns c k s ((if b then Own x.after else Env x.after) ∷ ms) e
    by_test true d = ⊎_elim (λ l. (k', own l.1, r)) (λ o. cc (o.0)) d
    by_test false d = ⊎_elim (λ l. cc (l.0)) (λ o. subst (λ n. CodeRuns c n x.after ms e) (other o.1) r) d

-- where the part goes at the first step of its view
front_join : (i : ℕ) (c : List BlockTree) (k : ℕ) (e : Bool) (s : State) (x : Step) (ms : List ViewStep) → CodeRuns c k s (view_step i x ∷ ms) e → (k' : ℕ) × (x.who ≡ i → Makes_step (slice_get c k) s x.after k') × (x.who ≢ i → k' ≡ k) × CodeRuns c k' x.after ms e
front_join i c k e s x ms r = by_test (x.who == i) (eqb_tells x.who i) r
  where
    by_test : (b : Bool) → ((b ≡ true) × (x.who ≡ i)) ⊎ ((b ≡ false) × (x.who ≢ i)) → CodeRuns c k s ((if b then Own x.after else Env x.after) ∷ ms) e → (k' : ℕ) × (x.who ≡ i → Makes_step (slice_get c k) s x.after k') × (x.who ≢ i → k' ≡ k) × CodeRuns c k' x.after ms e
    by_test true d r = ⊎_elim (λ l. (r.0, (λ w. r.1), (λ ne. absurd (ne l.1)), r.2)) (λ o. cc (o.0)) d
    by_test false d r = ⊎_elim (λ l. cc (l.0)) (λ o. (k, (λ w. absurd (o.1 w)), (λ ne. refl), r)) d

fronts_split : (i : ℕ) (cs : List (List BlockTree)) (ks ks' : List ℕ) (es : List Bool) (s : State) (x : Step) (xs : List Step) → PlacesGo i cs ks ks' s x → CodeViews i cs ks' es x.after xs → CodeViews i cs ks es s (x ∷ xs)
fronts_split i [] [] [] [] s x xs g v = tt
fronts_split i (c ∷ cs) (k ∷ ks) (k' ∷ ks') (e ∷ es) s x xs g v =
    (front_split i c k k' e s x (view i xs) g.0 g.1 v.0, fronts_split (suc i) cs ks ks' es s x xs g.2 v.1)
fronts_split i [] [] [] (e ∷ es) s x xs g v = absurd v
fronts_split i (c ∷ cs) (k ∷ ks) (k' ∷ ks') [] s x xs g v = absurd v
fronts_split i _ _ _ _ s x xs g v = absurd g

fronts_join : (i : ℕ) (cs : List (List BlockTree)) (ks : List ℕ) (es : List Bool) (s : State) (x : Step) (xs : List Step) → CodeViews i cs ks es s (x ∷ xs) → (ks' : List ℕ) × PlacesGo i cs ks ks' s x × CodeViews i cs ks' es x.after xs
fronts_join i [] [] [] s x xs v = ([], tt, tt)
fronts_join i (c ∷ cs) (k ∷ ks) (e ∷ es) s x xs v =
    let h = front_join i c k e s x (view i xs) v.0 in
    let r = fronts_join (suc i) cs ks es s x xs v.1 in
    (h.0 ∷ r.0, (h.1, h.2, r.1), (h.3, r.2))
fronts_join i _ _ _ s x xs v = absurd v

split : (cs : List (List BlockTree)) (ks : List ℕ) (s : State) (xs : List Step) (ended : Bool) → Paired cs ks → AllCodeRuns cs ks s xs ended → (es : List Bool) × CodeViews 1 cs ks es s xs × (ended ≡ all_true es)
split cs ks s [] ended p r = let h = ends_split 1 cs ks s p in (h.0, h.1, r ∙ h.2)
split cs ks s (x ∷ xs) ended p r =
    let h = split cs r.0 x.after xs ended (paired_after 1 cs ks r.0 s x r.1) r.2 in
    (h.0, fronts_split 1 cs ks r.0 h.0 s x xs r.1 h.1, h.2)

join : (cs : List (List BlockTree)) (ks : List ℕ) (es : List Bool) (s : State) (xs : List Step) → CodeViews 1 cs ks es s xs → AllCodeRuns cs ks s xs (all_true es)
join cs ks es s [] v = ends_join 1 cs ks es s v
join cs ks es s (x ∷ xs) v =
    let h = fronts_join 1 cs ks es s x xs v in
    (h.0, h.1, join cs h.0 es x.after xs h.2)

views_to : (i : ℕ) (ps : List PartTree) (es : List Bool) (s : State) (xs : List Step) → CodeViews i (program_code ps) (zeros (program_code ps)) es s xs → ViewsRun i ps es s xs
views_to i [] [] s xs v = tt
views_to i (p ∷ ps) (e ∷ es) s xs v = (part_to p.body s (view i xs) e v.0, views_to (suc i) ps es s xs v.1)
views_to i [] (e ∷ es) s xs v = absurd v
views_to i (p ∷ ps) [] s xs v = absurd v

views_from : (i : ℕ) (ps : List PartTree) (es : List Bool) (s : State) (xs : List Step) → ViewsRun i ps es s xs → CodeViews i (program_code ps) (zeros (program_code ps)) es s xs
views_from i [] [] s xs v = tt
views_from i (p ∷ ps) (e ∷ es) s xs v = (part_from p.body s (view i xs) e v.0, views_from (suc i) ps es s xs v.1)
views_from i [] (e ∷ es) s xs v = absurd v
views_from i (p ∷ ps) [] s xs v = absurd v

length-program_code : (ps : List PartTree) → length (program_code ps) ≡ length ps
length-program_code [] = refl
length-program_code (p ∷ ps) = ap suc (length-program_code ps)

-- code runs are program runs, both ways
pub compiler_is_right : CompilerIsRight
compiler_is_right program s xs ended = (to, from)
  where
    to : IsCodeRun program.words (program_code program.parts) s xs ended → IsRun program s xs ended
    to r =
        let codes = program_code program.parts in
        let h = split codes (zeros codes) s xs ended (paired_zeros codes) r.run in
        record {
          trace = subst (λ n. IsTraceOf program.words n s xs) (length-program_code program.parts) r.trace;
          flags = h.0;
          views = views_to 1 program.parts h.0 s xs h.1;
          over = h.2;
        }

    from : IsRun program s xs ended → IsCodeRun program.words (program_code program.parts) s xs ended
    from r =
        let codes = program_code program.parts in
        record {
          trace = subst (λ n. IsTraceOf program.words n s xs) (sym (length-program_code program.parts)) r.trace;
          run = subst (λ e. AllCodeRuns codes (zeros codes) s xs e) (sym r.over) (join codes (zeros codes) r.flags s xs (views_from 1 program.parts r.flags s xs r.views));
        }
