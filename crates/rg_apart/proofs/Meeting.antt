-- Where the conditions are true, no run brings two parts to one word.
use Rattle.std.proofs.Common.{◌≡◌, ◌∙◌, ◌≢◌, ℕ, zero, suc, ◌+◌, Bool, true, ◌||◌, List, [], ◌∷◌, map, length, Option, Some, inl, inr, refl, ap, sym, subst, arith}
use Rattle.std.specs.Prelude.{slice_get}
use Rattle.std.proofs.Math.Logic.{∥∥₁_elim}
use Rattle.std.proofs.lemmas.Bool.{true≢false, or_left}
use Rattle.std.proofs.lemmas.List.{length-map}
use Rattle.std.proofs.lemmas.List.FromFn.{length-range_with_len}
use Rattle.rg_words.specs.Layout.{Word, widths_of}
use Rattle.rg_words.specs.States.{IsState, AreValues}
use Rattle.rg_tree.specs.Statements.{ProgramTree}
use Rattle.rg_tree.specs.Traces.{State, Step, holds_at, last_of, IsTraceOf}
use Rattle.rg_tree.specs.Trees.{Proposition}
use Rattle.rg_tree.specs.Typing.{IsTyped}
use Rattle.rg_tree.specs.Programs.{nth}
use Rattle.rg_tree.specs.Lines.{LineTree}
use Rattle.rg_tree.specs.RuleConditions.{as_condition, IsMet, AllConditionsHold}
use Rattle.rg_tree.proofs.Asked.{met}
use Rattle.rg_c_plan.specs.Accesses.{StepTree, steps, steps_of_parts, writes, places}
use Rattle.rg_c_plan.specs.Where.{step_where, accesses_at}
use Rattle.rg_c_plan.proofs.Where.{accesses_are_where}
use Rattle.rg_accept.specs.Accepted.{IsProvedBy}
use Rattle.rg_accept.specs.Standing.{number_at, IsAsserted}
use Rattle.rg_accept.proofs.Standing.{assertions_hold}
use Rattle.rg_apart.specs.Conditions.{VisitTree, stepping, visit_of, visits, apart_asked}
use Rattle.rg_apart.specs.Lifted.{old_places, lifted_formula}
use Rattle.rg_apart.specs.Laws.{IsLeftOf, StandsAt, PartsNeverMeet, WholeIsLeft}
use Rattle.rg_erase.specs.Erased.{staying}
use Rattle.rg_apart.proofs.Lifted.{staying_length, at_old_place, truth_lifted}
use Rattle.rg_apart.proofs.Typed.{SiteTyped, site_typed, steps_typed, typed_at, body_typed}
use Rattle.rg_apart.proofs.Among.{Among, among_at, among_map, holds_among}
use Rattle.rg_apart.proofs.Visited.{AreAlike, of_step, visit_among, never_both, pair_among}

final_state : (words : List Word) (n : ℕ) (s : State) (xs : List Step) → IsTraceOf words n s xs → IsState words (last_of s xs)
final_state words n s [] tr = tr
final_state words n s (x ∷ xs) tr = final_state words n x.after xs tr.2

-- a state has a value for each word
values_length : (ws xs : List ℕ) → AreValues ws xs → length xs ≡ length ws
values_length [] [] h = refl
values_length [] (x ∷ xs) h = absurd h
values_length (w ∷ ws) [] h = absurd h
values_length (w ∷ ws) (x ∷ xs) h = ap suc (values_length ws xs h.1)

state_length : (words : List Word) (u : State) → IsState words u → length u ≡ length words
state_length words u h = values_length (widths_of words) u h ∙ length-map words (λ (w : Word). w.width)

line_among : (lines : List LineTree) (place : ℕ) (line : LineTree) → nth lines place ≡ Some line → Among line lines
line_among lines zero line h = cc h
line_among lines (suc place) line h = among_at lines place line h

module _ (p q : ProgramTree) (erased : List Bool) (is_left : IsLeftOf erased p q) (lines : List LineTree) (k : ℕ) (u : State) (state : IsState p.words u) where
  -- the old places of q's words
  abbrev old : List ℕ
  old = old_places erased p.words

  -- the visits of q's steps
  abbrev all : List VisitTree
  all = visits old k lines (steps_of_parts q.parts) (stepping p)

  -- where a part stands at a step that accesses the word, a visit of it holds
  record Visited (i : ℕ) (s : StepTree) : Type 0 where
    made : VisitTree
    among : Among made all
    of_part : made.part ≡ 1 + i
    writing : made.writes ≡ writes k s.act
    pre : holds_at made.pre u ≡ true
    site : holds_at made.site u ≡ true

  -- what is said of where a step accesses the word is said of the words that are left
  site_holds : {at : List ℕ} {i : ℕ} {s : StepTree} (st : StandsAt q at i s) (f : Proposition) → step_where k s.guard s.act ≡ Some f → holds_at (lifted_formula old f) u ≡ holds_at f (staying erased u)
  site_holds {at} {i} {s} st f is =
      let widths = widths_of q.words in
      let step = typed_at widths (steps st.part.body) st.place s (steps_typed q.words st.part.body (body_typed q.words q.parts i st.part is_left.typed.parts st.found)) st.step in
      let typed : IsTyped widths f = subst (λ (o : Option Proposition). SiteTyped widths o) is (site_typed widths k s.guard s.act step.0 step.1) in
      let words : length q.words ≡ length (staying erased p.words) = ap (λ (l : List Word). length l) is_left.words in
      let size : length widths ≡ length old =
      length-map q.words (λ (w : Word). w.width) ∙ words ∙ staying_length erased p.words (places p.words) (sym (length-range_with_len 0 (length p.words))) in
      truth_lifted old widths size u (staying erased u) (at_old_place erased (length p.words) u (state_length p.words u state)) f typed

  alike : AreAlike p.parts q.parts
  alike i part found = let has = is_left.parts i part found in (has.part, has.found, has.same_count)

  visited : (at : List ℕ) (i : ℕ) (s : StepTree) (st : StandsAt q at i s) → accesses_at q.words k (staying erased u) s ≡ true → ((place n : ℕ) → slice_get at i ≡ Some place → number_at p.parts i place ≡ Some n → IsAsserted lines n u) → Visited i s
  visited at i s st accesses asserted =
      let o = of_step 1 1 p.parts q.parts i st.part st.place s alike st.found st.step in
      let said = asserted st.place o.numbered.number st.stands o.number in
      let f = accesses_are_where q.words k (staying erased u) s accesses in
      record {
        made = visit_of o.numbered.part (lifted_formula old f.0) (writes k s.act) said.line;
        among = visit_among old k lines (steps_of_parts q.parts) (stepping p) s o.numbered f.0 said.line o.beside f.1 (line_among lines said.place said.line said.found) said.same_number said.own_rule;
        of_part = o.part;
        writing = refl;
        pre = said.holding;
        site = site_holds st f.0 f.1 ∙ f.2;
      }

  -- a condition of two visits that hold in one state isn't true
  not_both : (v w : VisitTree) → AllConditionsHold (map (as_condition p.words) (apart_asked p q old lines k)) → Among (never_both v w) (apart_asked p q old lines k) → holds_at v.pre u ≡ true → holds_at v.site u ≡ true → holds_at w.pre u ≡ true → holds_at w.site u ≡ true → ⊥
  not_both v w hold asked v_pre v_site w_pre w_site =
      let so = holds_among (map (as_condition p.words) (apart_asked p q old lines k)) (as_condition p.words (never_both v w)) hold (among_map (as_condition p.words) (apart_asked p q old lines k) (never_both v w) asked) in
      let both : IsMet p.words (never_both v w) = met p.words (never_both v w) tt so in
      true≢false (sym (both u state (v_pre, (v_site, (w_pre, (w_site, tt))))))

  contradicts : (i j : ℕ) (a b : StepTree) → AllConditionsHold (map (as_condition p.words) (apart_asked p q old lines k)) → i ≢ j → Visited i a → Visited j b → writes k a.act ≡ true → ⊥
  contradicts i j a b hold ne v w writing =
      let either : (v.made.writes || w.made.writes) ≡ true = or_left v.made.writes w.made.writes (v.writing ∙ writing) in
      let parts : v.made.part ≢ w.made.part = λ e. ne (let x = v.of_part in let y = w.of_part in omega (arith, e, x, y)) in
      elim (pair_among all v.made w.made v.among w.among parts either) [
        | inl asked ↦ not_both v.made w.made hold asked v.pre v.site w.pre w.site
        | inr asked ↦ not_both w.made v.made hold asked w.pre w.site v.pre v.site
      ]

pub parts_never_meet : PartsNeverMeet
parts_never_meet p q erased is_left lines apart keep s xs at st pre env k less flagged i j ne a b at_a at_b writing access_a access_b =
    ∥∥₁_elim keep.proved (λ x y. absurd x) (λ (proved : IsProvedBy p lines).
    let run = is_left.runs s xs at st pre env in
    let u = last_of run.start run.steps in
    let state = final_state p.words (length p.parts) run.start run.steps run.standing.trace in
    let says = assertions_hold p lines proved.typed proved.derives proved.hold run.start run.steps at run.standing run.begins run.inside in
    let here_a = subst (λ (v : State). accesses_at q.words k v a ≡ true) (sym run.stays) access_a in
    let here_b = subst (λ (v : State). accesses_at q.words k v b ≡ true) (sym run.stays) access_b in
    let v = visited p q erased is_left lines k u state at i a at_a here_a (says i) in
    let w = visited p q erased is_left lines k u state at j b at_b here_b (says j) in
    contradicts p q erased is_left lines k u state i j a b (keep.apart_hold k less flagged) ne v w writing)

pub whole_is_left : WholeIsLeft
whole_is_left p typed = record {
  typed = typed;
  words = refl;
  parts = λ i part found. record { part = part; found = found; same_count = refl };
  runs = λ s xs at st pre env. record { start = s; steps = xs; standing = st; begins = pre; inside = env; stays = refl };
}
