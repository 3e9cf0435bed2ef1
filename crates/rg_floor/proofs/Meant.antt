-- What a legal floor means.
use Rattle.std.proofs.Common.{◌≡◌, ◌≢◌, ℕ, zero, suc, ◌+◌, ◌-◌, ◌≤◌, ◌<◌, ◌==◌, Bool, true, false, ◌||◌, List, [], ◌∷◌, length, refl, sym, ap, ◌∙◌, subst, arith, eq-eqb, ⊎_elim}
use Rattle.std.specs.Prelude.{slice_get, Some, None, if◌then◌else◌}
use Rattle.std.specs.List.{list_any}
use Rattle.std.specs.Str.{bytes_eq}
use Rattle.std.proofs.Math.Logic.{∥∥₁_elim}
use Rattle.std.proofs.Math.Bool.{Bool-set}
use Rattle.std.proofs.lemmas.Option.{slice_get_past}
use Rattle.rg_tree.specs.Trees.{Proposition}
use Rattle.rg_tree.specs.Meaning.{holds}
use Rattle.rg_tree.specs.Inside.{is_inside}
use Rattle.rg_tree.specs.Statements.{PartTree, ProgramTree}
use Rattle.rg_tree.specs.Traces.{State, Inside, IsTraceOf, holds_at}
use Rattle.rg_tree.specs.Programs.{PartsInside, nth}
use Rattle.rg_code.specs.Code.{BlockTree, AllCodeRuns, IsCodeRun, all_at_end, zeros}
use Rattle.rg_monitor.specs.Entry.{Entry, covering}
use Rattle.rg_floor.specs.History.{GoTogether, RecordsLead, steps_of}
use Rattle.rg_floor.specs.Laws.{HistoriesAreRuns, StepsAreCovered, EndsAreInPost}
use Rattle.rg_floor.proofs.Readiness.{or_true, same_test}

-- the records' steps are those of a run
run_along : (p : ProgramTree) (codes : List (List BlockTree)) (n : ℕ) (ks : List ℕ) (s : State) (rs : List Entry) (to : List ℕ) → RecordsLead p codes n ks s rs to → AllCodeRuns codes ks s (steps_of rs) (all_at_end codes to)
run_along p codes n ks s [] to h = ap (all_at_end codes) h
run_along p codes n ks s (r ∷ rs) to h = (h.0, h.2, run_along p codes (suc n) h.0 r.after rs to h.3)

pub histories_are_runs : HistoriesAreRuns
histories_are_runs p codes start limit f l =
    record { trace = l.trace; run = run_along p codes 0 (zeros codes) start f.history f.places l.leads }

test_inside : (f : Proposition) (s t : State) → Inside (holds f) s t → is_inside f s t ≡ true
test_inside f s t h =
    ⊎_elim (λ e. ap (λ b. b || bytes_eq s t) e) (λ e. or_true (holds f s t) (bytes_eq s t) (ap (λ x. bytes_eq s x) e ∙ same_test s)) h

-- a part whose guarantee the step is inside is in the cover
covering-has : (n k m : ℕ) (ps : List PartTree) (s t : State) (q : PartTree) → m ≡ n + k → slice_get ps k ≡ Some q → is_inside q.spec.guar s t ≡ true → list_any (λ j. j == m) (covering n ps s t) ≡ true
covering-has n k m [] s t q is at test_holds = let none : slice_get {X = PartTree} [] k ≡ None = slice_get_past {X = PartTree} [] k (omega arith) in cc
covering-has n zero m (p ∷ ps) s t q is at test_holds =
    let same : p ≡ q = cc in
    let test : is_inside p.spec.guar s t ≡ true = ap (λ (x : PartTree). is_inside x.spec.guar s t) same ∙ test_holds in
    let here : (n == m) ≡ true = eq-eqb n m (omega arith) in
    ap (λ b. list_any (λ j. j == m) (if b then n ∷ covering (suc n) ps s t else covering (suc n) ps s t)) test
    ∙ ap (λ b. b || list_any (λ j. j == m) (covering (suc n) ps s t)) here
covering-has n (suc k) m (p ∷ ps) s t q is at test_holds =
    let rest = covering-has (suc n) k m ps s t q (omega arith) at test_holds in
    elim (is_inside p.spec.guar s t) as (λ b. list_any (λ j. j == m) (if b then n ∷ covering (suc n) ps s t else covering (suc n) ps s t) ≡ true) [
      | true ↦ or_true (n == m) (list_any (λ j. j == m) (covering (suc n) ps s t)) rest
      | false ↦ rest
    ]

part_there : (ps : List PartTree) (k : ℕ) → k < length ps → (q : PartTree) × (slice_get ps k ≡ Some q)
part_there [] k h = absurd (omega arith)
part_there (p ∷ ps) zero h = (p, refl)
part_there (p ∷ ps) (suc k) h = part_there ps k (omega arith)

named : (ps : List PartTree) (who : ℕ) (q : PartTree) → who ≢ 0 → slice_get ps (who - 1) ≡ Some q → nth ps who ≡ Some q
named ps zero q ne at = absurd (ne refl)
named ps (suc k) q ne at = let e : suc k - 1 ≡ k = omega arith in ap (slice_get ps) (sym e) ∙ at

covered_at : (p : ProgramTree) (codes : List (List BlockTree)) (n : ℕ) (ks : List ℕ) (s : State) (rs : List Entry) (to : List ℕ)
    → RecordsLead p codes n ks s rs to → PartsInside (holds p.spec.guar) p.parts s (steps_of rs) → IsTraceOf p.words (length codes) s (steps_of rs) → length codes ≡ length p.parts
    → (k : ℕ) (r : Entry) → slice_get rs k ≡ Some r → r.who ≢ 0 → list_any (λ j. j == r.who) r.cover ≡ true
covered_at p codes n ks s [] to h inside trace same k r at ne = let none : slice_get {X = Entry} [] k ≡ None = slice_get_past {X = Entry} [] k (omega arith) in cc
covered_at p codes n ks s (x ∷ rs) to h inside trace same (suc k) r at ne = covered_at p codes (suc n) h.0 x.after rs to h.3 inside.1 trace.2 same k r at ne
covered_at p codes n ks s (x ∷ rs) to h inside trace same zero r at ne =
    let is : x ≡ r = cc in
    let some : x.who ≢ 0 = λ e. ne (ap (λ (y : Entry). y.who) (sym is) ∙ e) in
    let bound : x.who ≤ length codes = trace.0 in
    let q = part_there p.parts (x.who - 1) (omega (arith, bound, same, some)) in
    let fits = inside.0 q.0 (named p.parts x.who q.0 some q.1) in
    let here = covering-has 1 (x.who - 1) x.who p.parts s x.after q.0 (omega (arith, some)) q.1 (test_inside q.0.spec.guar s x.after fits.1) in
    let done : list_any (λ j. j == x.who) x.cover ≡ true = ap (list_any (λ j. j == x.who)) h.1.cover ∙ here in
    let P : Entry → Type 0 = λ y. list_any (λ j. j == y.who) y.cover ≡ true in
    subst P is done

pub steps_are_covered : StepsAreCovered
steps_are_covered p codes start limit f l k r at ne =
    ∥∥₁_elim l.lawful (Bool-set _ _) (λ (law : GoTogether p codes).
    let run = (law.runs start (steps_of f.history) (all_at_end codes f.places)).0 (histories_are_runs p codes start limit f l) in
    let inside = law.satisfied.steps start (steps_of f.history) (all_at_end codes f.places) run l.start_in_pre l.rely in
    covered_at p codes 0 (zeros codes) start f.history f.places l.leads inside l.trace law.parts k r at ne)

pub ends_are_in_post : EndsAreInPost
ends_are_in_post p codes start limit f l ended =
    ∥∥₁_elim l.lawful (Bool-set _ _) (λ (law : GoTogether p codes).
    let ran = histories_are_runs p codes start limit f l in
    let run = (law.runs start (steps_of f.history) true).0 (subst (λ (b : Bool). IsCodeRun p.words codes start (steps_of f.history) b) ended ran) in
    ap (holds_at p.spec.post) l.words_are ∙ law.satisfied.end start (steps_of f.history) run l.start_in_pre l.rely)
