-- The parallel rule: step by step through a run, each part keeps its guarantee, so each view stays inside its rely.
use Rattle.std.proofs.Common.{◌≡◌, ◌≢◌, ℕ, zero, suc, ◌+◌, ◌≤◌, Bool, true, false, ◌&&◌, List, [], ◌∷◌, ◌++◌, length, Some, ◌⊎◌, refl, sym, subst, ap, ◌∙◌, ⊎_elim, arith}
use Rattle.std.proofs.lemmas.Bool.Decides.{eqb_tells}
use Rattle.std.proofs.lemmas.Bool.{eq-eqb, ne_eqb}
use Rattle.std.specs.Prelude.{slice_get, ◌==◌, if◌then◌else◌, map}
use Rattle.rg_words.specs.Layout.{Word}
use Rattle.rg_words.specs.States.{IsState, IsPair}
use Rattle.rg_tree.specs.Trees.{Proposition}
use Rattle.rg_tree.specs.Meaning.{holds}
use Rattle.rg_tree.specs.Statements.{Specification, PartTree, ProgramTree}
use Rattle.rg_tree.specs.Traces.{State, holds_at, ViewStep, Own, Env, Step, last, last_of, view_step, view, IsTrace, IsTraceOf, Inside, EnvInside}
use Rattle.rg_tree.specs.Runs.{runs}
use Rattle.rg_tree.specs.Programs.{nth, ViewsRun, all_true, IsRun, OthersInside, PartsInside, IsSatisfied, PartsSatisfy}
use Rattle.rg_tree.specs.RuleConditions.{reaches, allows, IsMet, AllMet, AllHold, StepsInside}
use Rattle.rg_tree.proofs.Guards.{Guards, StatementSound}
use Rattle.rg_tree.proofs.Asked.{inside_more, met_front, met_back}
use Rattle.rg_tree.proofs.Beginnings.{Satisfies-Sound}
use Rattle.rg_par.specs.Parallel.{pre_conditions, rely_conditions, guar_conditions, other_conditions, cross_conditions, parallel_conditions, ParallelRule}

-- from a fact about a view at its first step

-- the part's guard goes on, if a step of another part is inside its rely
guards_on : (R G : State → State → Bool) (s : State) (i : ℕ) (x : Step) (ms : List ViewStep) → Guards R G s (view_step i x ∷ ms) → (x.who ≢ i → Inside R s x.after) → Guards R G x.after ms
guards_on R G s i x ms g h = by_test (x.who == i) (eqb_tells x.who i) g
  where
    by_test : (b : Bool) → ((b ≡ true) × (x.who ≡ i)) ⊎ ((b ≡ false) × (x.who ≢ i)) → Guards R G s ((if b then Own x.after else Env x.after) ∷ ms) → Guards R G x.after ms
    by_test true d k = k.1
    by_test false d k = ⊎_elim (λ l. cc (l.0)) (λ r. k (h r.1)) d

-- its own step is inside its guarantee
guards_own : (R G : State → State → Bool) (s : State) (x : Step) (ms : List ViewStep) → Guards R G s (view_step x.who x ∷ ms) → Inside G s x.after
guards_own R G s x ms g =
    let e = eq-eqb x.who x.who refl in
    (subst (λ b. Guards R G s ((if b then Own x.after else Env x.after) ∷ ms)) e g).0

env_on : (R : State → State → Bool) (s : State) (i : ℕ) (x : Step) (ms : List ViewStep) → (x.who ≢ i → Inside R s x.after) → EnvInside R x.after ms → EnvInside R s (view_step i x ∷ ms)
env_on R s i x ms h env = by_test (x.who == i) (eqb_tells x.who i)
  where
    by_test : (b : Bool) → ((b ≡ true) × (x.who ≡ i)) ⊎ ((b ≡ false) × (x.who ≢ i)) → EnvInside R s ((if b then Own x.after else Env x.after) ∷ ms)
    by_test true d = env
    by_test false d = ⊎_elim (λ l. cc (l.0)) (λ r. (h r.1, env)) d

pub last_view : (s : State) (i : ℕ) (xs : List Step) → last s (view i xs) ≡ last_of s xs
last_view s i [] = refl
last_view s i (x ∷ xs) =
    let rest = last_view x.after i xs in
    elim (x.who == i) as (λ b. last s ((if b then Own x.after else Env x.after) ∷ view i xs) ≡ last_of x.after xs) [ true ↦ rest | false ↦ rest ]

pub trace_view : (words : List Word) (n : ℕ) (s : State) (i : ℕ) (xs : List Step) → IsTraceOf words n s xs → IsTrace words s (view i xs)
trace_view words n s i [] tr = tr
trace_view words n s i (x ∷ xs) tr =
    let rest = trace_view words n x.after i xs tr.2 in
    elim (x.who == i) as (λ b. IsTrace words s ((if b then Own x.after else Env x.after) ∷ view i xs)) [ true ↦ (tr.1, rest) | false ↦ (tr.1, rest) ]

nth_within : (ps : List PartTree) (n : ℕ) → suc n ≤ length ps → (p : PartTree) × (nth ps (suc n) ≡ Some p)
nth_within [] n h = absurd (omega arith)
nth_within (p ∷ ps) zero h = (p, refl)
nth_within (p ∷ ps) (suc n) h = nth_within ps n (omega arith)

-- the conditions of the parallel list, one by one

pre_at : (words : List Word) (pre : Proposition) (ps : List PartTree) (k : ℕ) (p : PartTree) → AllMet words (pre_conditions pre ps) → slice_get ps k ≡ Some p → IsMet words (reaches (pre ∷ []) [] p.spec.pre)
pre_at words pre [] k p h e = cc e
pre_at words pre (q ∷ ps) zero p h e = let same : q ≡ p = cc e in subst (λ x. IsMet words (reaches (pre ∷ []) [] x.spec.pre)) same h.0
pre_at words pre (q ∷ ps) (suc k) p h e = pre_at words pre ps k p h.1 e

rely_at : (words : List Word) (rely : Proposition) (ps : List PartTree) (k : ℕ) (p : PartTree) → AllMet words (rely_conditions rely ps) → slice_get ps k ≡ Some p → StepsInside words (holds rely) (holds p.spec.rely)
rely_at words rely [] k p h e = cc e
rely_at words rely (q ∷ ps) zero p h e = let same : q ≡ p = cc e in subst (λ x. StepsInside words (holds rely) (holds x.spec.rely)) same h.0
rely_at words rely (q ∷ ps) (suc k) p h e = rely_at words rely ps k p h.1 e

guar_at : (words : List Word) (guar : Proposition) (ps : List PartTree) (k : ℕ) (p : PartTree) → AllMet words (guar_conditions guar ps) → slice_get ps k ≡ Some p → StepsInside words (holds p.spec.guar) (holds guar)
guar_at words guar [] k p h e = cc e
guar_at words guar (q ∷ ps) zero p h e = let same : q ≡ p = cc e in subst (λ x. StepsInside words (holds x.spec.guar) (holds guar)) same h.0
guar_at words guar (q ∷ ps) (suc k) p h e = guar_at words guar ps k p h.1 e

other_at : (words : List Word) (i : ℕ) (rely : Proposition) (j : ℕ) (ps : List PartTree) (k : ℕ) (p : PartTree) → AllMet words (other_conditions i rely j ps) → slice_get ps k ≡ Some p → i ≢ j + k → StepsInside words (holds p.spec.guar) (holds rely)
other_at words i rely j [] k p h e ne = cc e
other_at words i rely j (q ∷ ps) zero p h e ne =
    let same : q ≡ p = cc e in
    let away : i ≢ j = λ x. ne (omega (arith, x)) in
    let first = met_front words (if i == j then [] else allows q.spec.guar rely ∷ []) (other_conditions i rely (suc j) ps) h in
    subst (λ x. StepsInside words (holds x.spec.guar) (holds rely)) same (subst (λ b. AllMet words (if b then [] else allows q.spec.guar rely ∷ [])) (ne_eqb i j away) first).0
other_at words i rely j (q ∷ ps) (suc k) p h e ne =
    other_at words i rely (suc j) ps k p (met_back words (if i == j then [] else allows q.spec.guar rely ∷ []) (other_conditions i rely (suc j) ps) h) e (λ x. ne (omega (arith, x)))

cross_at : (words : List Word) (all : List PartTree) (i : ℕ) (ps : List PartTree) (k : ℕ) (p : PartTree) (n : ℕ) → AllMet words (cross_conditions all i ps) → slice_get ps k ≡ Some p → n ≡ i + k → AllMet words (other_conditions n p.spec.rely 1 all)
cross_at words all i [] k p n h e j = cc e
cross_at words all i (q ∷ ps) zero p n h e j =
    let same : q ≡ p = cc e in
    let num : i ≡ n = omega arith in
    subst (λ x. AllMet words (other_conditions n x.spec.rely 1 all)) same (subst (λ m. AllMet words (other_conditions m q.spec.rely 1 all)) num (met_front words (other_conditions i q.spec.rely 1 all) (cross_conditions all (suc i) ps) h))
cross_at words all i (q ∷ ps) (suc k) p n h e j =
    cross_at words all (suc i) ps k p n (met_back words (other_conditions i q.spec.rely 1 all) (cross_conditions all (suc i) ps) h) e (omega arith)

-- the view of the part at a place is a run of its body
view_at : (i : ℕ) (ps : List PartTree) (es : List Bool) (s : State) (xs : List Step) (k : ℕ) (p : PartTree) (n : ℕ) → ViewsRun i ps es s xs → slice_get ps k ≡ Some p → n ≡ i + k → (e : Bool) × runs p.body s (view n xs) e × (all_true es ≡ true → e ≡ true)
view_at i [] [] s xs k p n h e j = cc e
view_at i (q ∷ ps) (f ∷ es) s xs zero p n h e j =
    let same : q ≡ p = cc e in
    let num : i ≡ n = omega arith in
    (f, subst (λ x. runs x.body s (view n xs) f) same (subst (λ m. runs q.body s (view m xs) f) num h.0), λ a. and_left f (all_true es) a)
  where
    and_left : (a b : Bool) → (a && b) ≡ true → a ≡ true
    and_left true b h = refl
    and_left false b h = cc h
view_at i (q ∷ ps) (f ∷ es) s xs (suc k) p n h e j =
    let r = view_at (suc i) ps es s xs k p n h.1 e (omega arith) in
    (r.0, r.1, λ a. r.2 (and_right f (all_true es) a))
  where
    and_right : (a b : Bool) → (a && b) ≡ true → b ≡ true
    and_right true b h = h
    and_right false b h = cc h
view_at i [] (f ∷ es) s xs k p n h e j = absurd h
view_at i (q ∷ ps) [] s xs k p n h e j = absurd h

-- what the parallel rule asks, part by part
record Fits (words : List Word) (spec : Specification) (parts : List PartTree) : Type 0 where
  pre : (i : ℕ) (p : PartTree) → nth parts i ≡ Some p → IsMet words (reaches (spec.pre ∷ []) [] p.spec.pre)
  rely : (i : ℕ) (p : PartTree) → nth parts i ≡ Some p → StepsInside words (holds spec.rely) (holds p.spec.rely)
  cross : (i j : ℕ) (p q : PartTree) → nth parts i ≡ Some p → nth parts j ≡ Some q → j ≢ i → StepsInside words (holds q.spec.guar) (holds p.spec.rely)
  guar : (i : ℕ) (p : PartTree) → nth parts i ≡ Some p → StepsInside words (holds p.spec.guar) (holds spec.guar)
  post : IsMet words (reaches (map (λ p. p.spec.post) parts) [] spec.post)

fits_of : (words : List Word) (spec : Specification) (parts : List PartTree) → AllMet words (parallel_conditions spec parts) → Fits words spec parts
fits_of words spec parts h =
    let a = pre_conditions spec.pre parts in
    let b = rely_conditions spec.rely parts in
    let c = cross_conditions parts 1 parts in
    let d = guar_conditions spec.guar parts in
    let last_one = reaches (map (λ p. p.spec.post) parts) [] spec.post ∷ [] in
    let h_d = met_front words (((a ++ b) ++ c) ++ d) last_one h in
    let h_c = met_front words ((a ++ b) ++ c) d h_d in
    let h_b = met_front words (a ++ b) c h_c in
    let pres = met_front words a b h_b in
    let relies = met_back words a b h_b in
    let crosses = met_back words (a ++ b) c h_c in
    let guars = met_back words ((a ++ b) ++ c) d h_d in
    record {
      pre = pre_nth pres;
      rely = rely_nth relies;
      cross = cross_nth crosses;
      guar = guar_nth guars;
      post = (met_back words (((a ++ b) ++ c) ++ d) last_one h).0;
    }
  where
    pre_nth : AllMet words (pre_conditions spec.pre parts) → (i : ℕ) (p : PartTree) → nth parts i ≡ Some p → IsMet words (reaches (spec.pre ∷ []) [] p.spec.pre)
    pre_nth h zero p e = cc e
    pre_nth h (suc i) p e = pre_at words spec.pre parts i p h e

    rely_nth : AllMet words (rely_conditions spec.rely parts) → (i : ℕ) (p : PartTree) → nth parts i ≡ Some p → StepsInside words (holds spec.rely) (holds p.spec.rely)
    rely_nth h zero p e = cc e
    rely_nth h (suc i) p e = rely_at words spec.rely parts i p h e

    guar_nth : AllMet words (guar_conditions spec.guar parts) → (i : ℕ) (p : PartTree) → nth parts i ≡ Some p → StepsInside words (holds p.spec.guar) (holds spec.guar)
    guar_nth h zero p e = cc e
    guar_nth h (suc i) p e = guar_at words spec.guar parts i p h e

    cross_nth : AllMet words (cross_conditions parts 1 parts) → (i j : ℕ) (p q : PartTree) → nth parts i ≡ Some p → nth parts j ≡ Some q → j ≢ i → StepsInside words (holds q.spec.guar) (holds p.spec.rely)
    cross_nth h zero j p q e f ne = cc e
    cross_nth h (suc i) zero p q e f ne = cc f
    cross_nth h (suc i) (suc j) p q e f ne =
        other_at words (suc i) p.spec.rely 1 parts j q (cross_at words parts 1 parts i p (suc i) h e (omega arith)) f (λ x. ne (omega (arith, x)))

module _ (words : List Word) (spec : Specification) (parts : List PartTree) (fits : Fits words spec parts) where
  -- at each moment each part guards its own steps
  abbrev AllGuard : State → List Step → Type 0
  AllGuard s xs = (i : ℕ) (p : PartTree) → nth parts i ≡ Some p → Guards (holds p.spec.rely) (holds p.spec.guar) s (view i xs)

  -- a step that is not of part i is inside its rely
  step_inside : (s : State) (x : Step) (xs : List Step) → x.who ≤ length parts → IsPair words s x.after → (x.who ≡ 0 → Inside (holds spec.rely) s x.after) → AllGuard s (x ∷ xs) → (i : ℕ) (p : PartTree) → nth parts i ≡ Some p → x.who ≢ i → Inside (holds p.spec.rely) s x.after
  step_inside s x xs le pair env g i p e ne = by_who x.who refl
    where
      by_who : (n : ℕ) → x.who ≡ n → Inside (holds p.spec.rely) s x.after
      by_who zero w = inside_more words (holds spec.rely) (holds p.spec.rely) (fits.rely i p e) s x.after pair (env w)
      by_who (suc j) w =
          let q = nth_within parts j (omega arith) in
          let found = ap (nth parts) w ∙ q.1 in
          inside_more words (holds q.0.spec.guar) (holds p.spec.rely) (fits.cross i x.who p q.0 e found ne) s x.after pair (guards_own (holds q.0.spec.rely) (holds q.0.spec.guar) s x (view x.who xs) (g x.who q.0 found))

  -- so all steps of parts are inside, and so are the environment's steps of each view
  all_inside : (s : State) (xs : List Step) → IsTraceOf words (length parts) s xs → AllGuard s xs → OthersInside (holds spec.rely) s xs → PartsInside (holds spec.guar) parts s xs × ((i : ℕ) (p : PartTree) → nth parts i ≡ Some p → EnvInside (holds p.spec.rely) s (view i xs))
  all_inside s [] tr g env = (tt, λ i p e. tt)
  all_inside s (x ∷ xs) tr g env =
      let away = step_inside s x xs tr.0 tr.1 env.0 g in
      let rest = all_inside x.after xs tr.2 (λ i p e. guards_on (holds p.spec.rely) (holds p.spec.guar) s i x (view i xs) (g i p e) (away i p e)) env.1 in
      let own : (p : PartTree) → nth parts x.who ≡ Some p → Inside (holds p.spec.guar) s x.after = λ p e. guards_own (holds p.spec.rely) (holds p.spec.guar) s x (view x.who xs) (g x.who p e) in
      ((λ p e. (inside_more words (holds p.spec.guar) (holds spec.guar) (fits.guar x.who p e) s x.after tr.1 (own p e), own p e), rest.0), λ i p e. env_on (holds p.spec.rely) s i x (view i xs) (away i p e) (rest.1 i p e))

  -- the posts hold together at the end
  posts_hold : (i : ℕ) (ps : List PartTree) (t : State) → ((k : ℕ) (p : PartTree) → slice_get ps k ≡ Some p → holds_at p.spec.post t ≡ true) → AllHold (map (λ p. p.spec.post) ps) t
  posts_hold i [] t h = tt
  posts_hold i (p ∷ ps) t h = (h 0 p refl, posts_hold (suc i) ps t (λ k. h (suc k)))

  -- each part is sound by itself
  abbrev PartsSound : Type 0
  PartsSound = (i : ℕ) (p : PartTree) → nth parts i ≡ Some p → StatementSound words p.spec p.body

  view_of : (s : State) (xs : List Step) (flags : List Bool) → ViewsRun 1 parts flags s xs → (i : ℕ) (p : PartTree) → nth parts i ≡ Some p → (e : Bool) × runs p.body s (view i xs) e × (all_true flags ≡ true → e ≡ true)
  view_of s xs flags v zero p e = cc e
  view_of s xs flags v (suc i) p e = view_at 1 parts flags s xs i p (suc i) v e (omega arith)

  first_state : (s : State) (xs : List Step) → IsTraceOf words (length parts) s xs → IsState words s
  first_state s [] tr = tr
  first_state s (x ∷ xs) tr = tr.1.first

  final_state : (s : State) (xs : List Step) → IsTraceOf words (length parts) s xs → IsState words (last_of s xs)
  final_state s [] tr = tr
  final_state s (x ∷ xs) tr = final_state x.after xs tr.2

  guards_at_first : PartsSound → (s : State) (xs : List Step) (flags : List Bool) → IsTraceOf words (length parts) s xs → ViewsRun 1 parts flags s xs → holds_at spec.pre s ≡ true → AllGuard s xs
  guards_at_first sound s xs flags tr v at i p e =
      let r = view_of s xs flags v i p e in
      (sound i p e).guards s (view i xs) r.0 r.1 (trace_view words (length parts) s i xs tr) (fits.pre i p e s (first_state s xs tr) (at, tt))

  ends_well : PartsSound → (s : State) (xs : List Step) (flags : List Bool) → IsTraceOf words (length parts) s xs → ViewsRun 1 parts flags s xs → all_true flags ≡ true → holds_at spec.pre s ≡ true → OthersInside (holds spec.rely) s xs → holds_at spec.post (last_of s xs) ≡ true
  ends_well sound s xs flags tr v over at env =
      let inside = all_inside s xs tr (guards_at_first sound s xs flags tr v at) env in
      fits.post (last_of s xs) (final_state s xs tr) (posts_hold 1 parts (last_of s xs) (λ k p e. one k p e inside.1))
    where
      one : (k : ℕ) (p : PartTree) → slice_get parts k ≡ Some p → ((i : ℕ) (p : PartTree) → nth parts i ≡ Some p → EnvInside (holds p.spec.rely) s (view i xs)) → holds_at p.spec.post (last_of s xs) ≡ true
      one k p e inside =
          let r = view_of s xs flags v (suc k) p e in
          let run = subst (λ b. runs p.body s (view (suc k) xs) b) (r.2 over) r.1 in
          let done = (sound (suc k) p e).ends s (view (suc k) xs) run (trace_view words (length parts) s (suc k) xs tr) (fits.pre (suc k) p e s (first_state s xs tr) (at, tt)) (inside (suc k) p e) in
          subst (λ t. holds_at p.spec.post t ≡ true) (last_view s (suc k) xs) done

parallel_sound : (program : ProgramTree) → ((i : ℕ) (p : PartTree) → nth program.parts i ≡ Some p → StatementSound program.words p.spec p.body) → AllMet program.words (parallel_conditions program.spec program.parts) → IsSatisfied program
parallel_sound program sound conditions =
    let words = program.words in let spec = program.spec in let parts = program.parts in
    let fits = fits_of words spec parts conditions in
    record {
      steps = λ s xs ended run at env. (all_inside words spec parts fits s xs run.trace (guards_at_first words spec parts fits sound s xs run.flags run.trace run.views at) env).0;
      end = λ s xs run at env. ends_well words spec parts fits sound s xs run.flags run.trace run.views (sym run.over) at env;
    }

pub parallel_rule : ParallelRule
parallel_rule program satisfy met =
    parallel_sound program (λ i p e. Satisfies-Sound program.words p.spec p.body (satisfy i p e)) met

-- in a run from the pre, with steps of the environment inside the rely, each part begins in its own pre, and all steps but its own are inside its rely
pub part_relies : (program : ProgramTree) → PartsSatisfy program → AllMet program.words (parallel_conditions program.spec program.parts) → (s : State) (xs : List Step) (ended : Bool) → IsRun program s xs ended → holds_at program.spec.pre s ≡ true → OthersInside (holds program.spec.rely) s xs → (i : ℕ) (p : PartTree) → nth program.parts i ≡ Some p → (holds_at p.spec.pre s ≡ true) × EnvInside (holds p.spec.rely) s (view i xs)
part_relies program satisfy met s xs ended run at env i p e =
    let words = program.words in let spec = program.spec in let parts = program.parts in
    let fits = fits_of words spec parts met in
    let guards = guards_at_first words spec parts fits (λ j q f. Satisfies-Sound words q.spec q.body (satisfy j q f)) s xs run.flags run.trace run.views at in
    (fits.pre i p e s (first_state words spec parts fits s xs run.trace) (at, tt), (all_inside words spec parts fits s xs run.trace guards env).1 i p e)
