-- After a run of the code, what the lines of its program's derivation say holds where the parts stand.
use Rattle.std.proofs.Common.{◌≡◌, ◌∙◌, ◌≢◌, ℕ, zero, suc, ◌+◌, Bool, true, false, List, [], ◌∷◌, length, Option, Some, ◌⊎◌, inl, refl, ap, sym, subst, arith, ⊎_elim}
use Rattle.std.specs.Prelude.{slice_get, ◌==◌, if◌then◌else◌}
use Rattle.std.proofs.lemmas.List.{append-nil}
use Rattle.std.proofs.lemmas.Bool.Decides.{eqb_tells}
use Rattle.rg_tree.specs.Meaning.{holds}
use Rattle.rg_tree.specs.Numbering.{statements, statements_of_parts}
use Rattle.rg_tree.specs.Statements.{Specification, PartTree, ProgramTree}
use Rattle.rg_tree.specs.Traces.{State, Step, Own, Env, ViewStep, view, view_step, holds_at, IsTraceOf}
use Rattle.rg_tree.specs.Programs.{IsRun}
use Rattle.rg_tree.specs.RuleConditions.{AllMet}
use Rattle.rg_tree.specs.Lines.{LineTree}
use Rattle.rg_tree.proofs.Asked.{all_met, plain_append, met_front, met_back}
use Rattle.rg_tree.proofs.Stands.{Stands}
use Rattle.rg_rules.specs.Derivations.{DerivationFits, conditions_asked}
use Rattle.rg_rules.proofs.Lines.{rules_are_sound, number_of}
use Rattle.rg_rules.proofs.Places.{closed_parts}
use Rattle.rg_rules.proofs.Sound.{lines_plain, parts_satisfy}
use Rattle.rg_par.specs.Parallel.{parallel_conditions}
use Rattle.rg_par.proofs.Parallel.{part_relies, trace_view, last_view}
use Rattle.rg_par.proofs.Sound.{parallel_plain}
use Rattle.rg_code.specs.Code.{BlockTree, Makes_step, PlacesGo, AllCodeRuns, all_at_end, end_block, zeros, count_of, part_code, program_code}
use Rattle.rg_code.proofs.Views.{compiler_is_right}
use Rattle.rg_accept.specs.Accepted.{asked_of}
use Rattle.rg_accept.specs.Standing.{StandAfter, AreStanding, block_numbers, numbers_of_blocks, IsAsserted, AssertionsHold}
use Rattle.rg_accept.proofs.Blocks.{IsBody, body_at, part_at, found_in, code_at, zero_at, length-program_code, end_makes, end_numbered}
use Rattle.rg_accept.proofs.Covering.{Leads, Covers, CoversStatement, lines_cover, covers_end}

-- where a part goes in a step of all parts, numbered from i
record Goes (number : ℕ) (c : List BlockTree) (k : ℕ) (place : Option ℕ) (s : State) (x : Step) : Type 0 where
  to : ℕ
  there : place ≡ Some to
  own : x.who ≡ number → Makes_step (slice_get c k) s x.after to
  other : x.who ≢ number → to ≡ k

goes_at : (i : ℕ) (cs : List (List BlockTree)) (ks ks' : List ℕ) (s : State) (x : Step) (j number : ℕ) (c : List BlockTree) (k : ℕ) → number ≡ i + j → PlacesGo i cs ks ks' s x → slice_get cs j ≡ Some c → slice_get ks j ≡ Some k → Goes number c k (slice_get ks' j) s x
goes_at i [] [] [] s x j number c k e g hc hk = cc hc
goes_at i (d ∷ cs) (l ∷ ks) (l' ∷ ks') s x zero number c k e g hc hk =
    let same_code : d ≡ c = cc hc in
    let same_place : l ≡ k = cc hk in
    let same_number : number ≡ i = omega (arith, e) in
    record {
      to = l';
      there = refl;
      own = λ w. subst (λ y. Makes_step (slice_get c y) s x.after l') same_place (subst (λ (b : List BlockTree). Makes_step (slice_get b l) s x.after l') same_code (g.0 (w ∙ same_number)));
      other = λ ne. g.1 (λ w. ne (w ∙ sym same_number)) ∙ same_place;
    }
goes_at i (d ∷ cs) (l ∷ ks) (l' ∷ ks') s x (suc j) number c k e g hc hk = goes_at (suc i) cs ks ks' s x j number c k (omega (arith, e)) g.2 hc hk
goes_at i _ _ _ s x j number c k e g hc hk = absurd g

-- one step in front of what a part sees
leads_on : (i : ℕ) (c : List BlockTree) (k to e : ℕ) (s : State) (x : Step) (ms : List ViewStep) → (x.who ≡ i → Makes_step (slice_get c k) s x.after to) → (x.who ≢ i → to ≡ k) → Leads c to x.after ms e → Leads c k s (view_step i x ∷ ms) e
leads_on i c k to e s x ms own other r = by_test (x.who == i) (eqb_tells x.who i)
  where
    by_test : (b : Bool) → ((b ≡ true) × (x.who ≡ i)) ⊎ ((b ≡ false) × (x.who ≢ i)) → Leads c k s ((if b then Own x.after else Env x.after) ∷ ms) e
    by_test true d = ⊎_elim (λ l. (to, own l.1, r)) (λ o. cc (o.0)) d
    by_test false d = ⊎_elim (λ l. cc (l.0)) (λ o. subst (λ n. Leads c n x.after ms e) (other o.1) r) d

-- what the j-th part sees of a run leads to where it stands
leads_there : (cs : List (List BlockTree)) (ks : List ℕ) (s : State) (xs : List Step) (at : List ℕ) → StandAfter cs ks s xs at → (j : ℕ) (c : List BlockTree) (k e : ℕ) → slice_get cs j ≡ Some c → slice_get ks j ≡ Some k → slice_get at j ≡ Some e → Leads c k s (view (suc j) xs) e
leads_there cs ks s [] at r j c k e hc hk he = cc (r, hk, he)
leads_there cs ks s (x ∷ xs) at r j c k e hc hk he =
    let g = goes_at 1 cs ks r.0 s x j (suc j) c k (omega arith) r.1 hc hk in
    leads_on (suc j) c k g.to e s x (view (suc j) xs) g.own g.other (leads_there cs r.0 x.after xs at r.2 j c g.to e hc g.there he)

code_runs : (cs : List (List BlockTree)) (ks : List ℕ) (s : State) (xs : List Step) (at : List ℕ) → StandAfter cs ks s xs at → AllCodeRuns cs ks s xs (all_at_end cs at)
code_runs cs ks s [] at r = ap (λ l. all_at_end cs l) r
code_runs cs ks s (x ∷ xs) at r = (r.0, r.1, code_runs cs r.0 x.after xs at r.2)

is_run : (p : ProgramTree) (s : State) (xs : List Step) (at : List ℕ) → AreStanding p s xs at → IsRun p s xs (all_at_end (program_code p.parts) at)
is_run p s xs at st =
    let codes = program_code p.parts in
    (compiler_is_right p s xs (all_at_end codes at)).0 (record { trace = subst (λ n. IsTraceOf p.words n s xs) (sym (length-program_code p.parts)) st.trace; run = code_runs codes (zeros codes) s xs at st.run })

-- the lines of a part cover its pre along its code
body_covers : (p : ProgramTree) (lines : List LineTree) (part : PartTree) (ns : List ℕ) → DerivationFits (statements_of_parts p.parts) lines → AllMet p.words (conditions_asked (statements_of_parts p.parts) lines lines) → IsBody (statements_of_parts p.parts) lines (Some ns) part → (n : ℕ) → Covers p.words lines (holds part.spec.rely) (part_code part.body) ns n 0 (holds_at part.spec.pre)
body_covers p lines part ns fits met b n =
    let words = p.words in
    let all = statements_of_parts p.parts in
    let inner = closed_parts p.parts in
    let R = holds part.spec.rely in
    let code = part_code part.body in
    let d = b.derived in
    let same : ns ≡ block_numbers (suc b.before) (statements part.body) = cc b.numbers in
    let here = number_of words all inner lines b.before d.line.number part.body d.same_number b.stands in
    let covers = lines_cover words lines R code ns all inner fits met (suc d.place) d.place d.line (omega arith) d.found part.body here in
    let covers' = subst (λ (l : Specification). CoversStatement words lines R code ns all inner l d.line.number part.body) d.same_spec covers in
    let numbered : Stands ns 0 (block_numbers d.line.number (statements part.body)) =
    ([], same ∙ ap (λ m. block_numbers m (statements part.body)) (sym d.same_number) ∙ sym (append-nil (block_numbers d.line.number (statements part.body)))) in
    let past = ap (λ (l : List ℕ). slice_get l (count_of part.body)) same ∙ end_numbered (suc b.before) part.body in
    covers' b.before 0 (count_of part.body) n d.same_number b.stands (end_block ∷ [], refl) numbered (λ s t pair r. inl r)
    (covers_end words lines R code ns n (count_of part.body) (holds_at part.spec.post) (end_makes part.body) past)

pub assertions_hold : AssertionsHold
assertions_hold p lines typed derives hold s xs at st pre env i k n hk hn =
    let words = p.words in
    let all = statements_of_parts p.parts in
    let codes = program_code p.parts in
    let asked = conditions_asked all lines lines in
    let parallel = parallel_conditions p.spec p.parts in
    let met = all_met words (asked_of p lines) (plain_append asked parallel (lines_plain words all lines lines typed) (parallel_plain p.spec p.parts)) hold in
    let met_lines = met_front words asked parallel met in
    let satisfy = parts_satisfy p lines derives (rules_are_sound words p.parts lines derives.lines_fit met_lines) in
    let numbers = found_in (slice_get (numbers_of_blocks 1 p.parts) i) k n hn in
    let found = part_at 1 p.parts i numbers.0 numbers.1 in
    let part = found.0 in
    let body = subst (λ (o : Option (List ℕ)). IsBody all lines o part) numbers.1 (body_at all lines 0 p.parts i part ([], sym (append-nil all)) derives.parts_derived found.1) in
    let relies = part_relies p satisfy (met_back words asked parallel met) s xs (all_at_end codes at) (is_run p s xs at st) pre env (suc i) part found.1 in
    let own = code_at p.parts i part found.1 in
    let leads = leads_there codes (zeros codes) s xs at st.run i (part_code part.body) 0 k own (zero_at codes i (part_code part.body) own) hk in
    let ms = view (suc i) xs in
    let says = body_covers p lines part numbers.0 derives.lines_fit met_lines body (suc (length ms)) s relies.0 ms k (omega arith) (trace_view words (length p.parts) s (suc i) xs st.trace) relies.1 leads in
    subst (λ (u : State). IsAsserted lines n u) (last_view s (suc i) xs) (says n numbers.2)
