-- What sound kinds are good for.
use Rattle.std.proofs.Common.{◌≡◌, ◌∙◌, ◌≢◌, ℕ, zero, suc, ◌+◌, ◌<◌, ◌≤◌, Bool, true, false, not, ◌&&◌, ◌||◌, nat_eq, List, [], ◌∷◌, Option, Some, None, length, get_or, slice_get, map, option_map, cond, ◌⊎◌, inl, inr, refl, ap, sym, subst, arith}
use Rattle.std.specs.List.{All, Contains}
use Rattle.std.specs.Option.{option_map_or}
use Rattle.std.proofs.lemmas.Bool.{true≢false, not-true, not_from_false, false_from_ne_true, true_from_ne_false, or_left, or_right, or_parts, or_cases, or_from, and_parts, and_from, ne_eqb, cases_eq, cases_lt, cases_order}
use Rattle.std.proofs.lemmas.List.{length-map, get_or_past}
use Rattle.std.proofs.lemmas.List.Elements.{All-nil, All-cons, All-contains}
use Rattle.std.proofs.lemmas.List.FromFn.{length-map-range_with_len, get_or-map-range_with_len}
use Rattle.std.proofs.lemmas.Option.{get_or_from_slice_get, slice_get-map, slice_get_within}
use Rattle.rg_tree.specs.Trees.{Proposition, Assignment}
use Rattle.rg_tree.specs.Statements.{PartTree, ProgramTree}
use Rattle.rg_tree.specs.TypedPrograms.{IsTypedProgram}
use Rattle.rg_tree.specs.Traces.{State}
use Rattle.rg_c_plan.specs.declared.access.Access.{Access}
use Rattle.rg_c_plan.specs.declared.kind.Kind.{Kind}
use Rattle.rg_c_plan.specs.declared.kind.Kind.TheVariants.{Fixed, Own, Apart, Published, Sheltered, Atomic, Guarded}
use Rattle.rg_c_plan.specs.declared.order.Rank.{Rank}
use Rattle.rg_c_plan.specs.declared.planned.Unplanned.{Unplanned}
use Rattle.rg_c_plan.specs.declared.way.Way.TheVariants.{Direct, Load, Store, Exchange, Select, Section}
use Rattle.rg_c_plan.specs.Accesses.{StepTree, steps, reads, writes, touches, part_access, world_access, accesses, is_touched, meet, some_meet, places}
use Rattle.rg_c_plan.specs.Ways.{kind_at, is_atomic, is_published, is_guarded, exposes, touches_guarded, times_assigned, way_at, exposes_another, first_exposed, in_section, way_from, way_of}
use Rattle.rg_c_plan.specs.Once.{is_exposed_twice, is_chosen, exposes_one, is_one_access}
use Rattle.rg_c_plan.specs.Made.{step_made}
use Rattle.rg_c_plan.specs.Orders.{interrupts, may_act}
use Rattle.rg_c_plan.specs.Views.{no_access, others_access, seen_kind, kinds_for, views_from}
use Rattle.rg_c_plan.specs.Apart.{world_meets, is_early, is_apart_kind, apart_word, late_word}
use Rattle.rg_c_plan.specs.Kinds.{failed, late, step_fault, failing_step, failing}
use Rattle.rg_c_plan.specs.Sound.{IsSound}
use Rattle.rg_c_plan.specs.Laws.{IsStepOf, ExposesOne, StepsAreOneAccess, NoOtherWrites, NoOtherTouches, OthersMeetNobody, GuardedWordsInSections, KeepsOff, NoRaces, NoRacesOutside, StepsAreEarly}
use Rattle.rg_c_plan.proofs.Places.{any_at}
use Rattle.rg_c_plan.proofs.Lists.{all_fail, passes_at, found_none}
use Rattle.rg_c_plan.proofs.Singles.{step_once, chosen_step_once}
use Rattle.rg_c_plan.proofs.Written.{NobodyMeetsAt, fixed_apart}
use Rattle.rg_c_plan.proofs.Orders.{never_both, another, acts}

-- a way at a word isn't a section
way_at_outside : (kinds : List Kind) (guard : Option Proposition) (act : List Assignment) (m : ℕ) → way_at kinds guard act m ≡ Section → ⊥
way_at_outside kinds guard act m = by_flags (not (is_atomic (kind_at kinds m) && reads m guard act) && nat_eq (times_assigned m act) 1) (not (writes m act))
  where
    by_flags : (b c : Bool) → cond b (Store m) (cond c (Load m) (Exchange m)) ≡ Section → ⊥
    by_flags true c e = cc e
    by_flags false true e = cc e
    by_flags false false e = cc e

module _ (kinds : List Kind) (s : StepTree) where
  -- a word without a kind is neither exposed nor guarded
  has_kind : (k : ℕ) → (kind_at kinds k ≡ Own → ⊥) → k < length kinds
  has_kind k ne = elim (cases_lt k (length kinds)) [ inl l ↦ l | inr g ↦ absurd (ne (get_or_past kinds k Own g)) ]

  exposed_within : (k : ℕ) → exposes kinds s.guard s.act k ≡ true → k < length kinds
  exposed_within k h = has_kind k (λ own.
      let none : exposes kinds s.guard s.act k ≡ false = ap (λ (kind : Kind). (is_atomic kind && touches k s.guard s.act) || (is_published kind && writes k s.act)) own in
      true≢false (sym h ∙ none))

  pub guarded_in_section : (k : ℕ) → kind_at kinds k ≡ Guarded → touches k s.guard s.act ≡ true → way_of kinds s.guard s.act ≡ Section
  guarded_in_section k e touched =
      let here : touches_guarded kinds s.guard s.act k ≡ true = and_from (is_guarded (kind_at kinds k)) (touches k s.guard s.act) (ap (λ (kind : Kind). is_guarded kind) e) touched in
      let within = has_kind k (λ own. not_own (kind_at kinds k) e own) in
      let inside : in_section kinds s.guard s.act ≡ true = any_at (touches_guarded kinds s.guard s.act) 0 (length kinds) k (omega arith) (omega (arith, within)) here in
      rw inside refl
    where
      not_own : (kind : Kind) → kind ≡ Guarded → kind ≡ Own → ⊥
      not_own kind g o = let both : Guarded ≡ Own = sym g ∙ o in cc both

  -- a step outside of sections that exposes one word at most
  one_exposed : exposes_one kinds s.guard s.act ≡ true → ExposesOne kinds s
  one_exposed h =
      let parts = and_parts (not (in_section kinds s.guard s.act)) (option_map_or (λ k. not (exposes_another kinds s.guard s.act k)) (first_exposed kinds s.guard s.act) true) h in
      (outside (not-true (in_section kinds s.guard s.act) parts.0), by_found (first_exposed kinds s.guard s.act) refl parts.1)
    where
      outside : in_section kinds s.guard s.act ≡ false → way_of kinds s.guard s.act ≡ Section → ⊥
      outside free e = by_way (first_exposed kinds s.guard s.act) (sym (ap (λ b. cond b Section (option_map_or (way_from kinds s.guard s.act) (first_exposed kinds s.guard s.act) Direct)) free) ∙ e)
        where
          by_way : (o : Option ℕ) → option_map_or (way_from kinds s.guard s.act) o Direct ≡ Section → ⊥
          by_way None w = cc w
          by_way (Some m) w = by_another (exposes_another kinds s.guard s.act m) w
            where
              by_another : (b : Bool) → cond b Select (way_at kinds s.guard s.act m) ≡ Section → ⊥
              by_another true w = cc w
              by_another false w = way_at_outside kinds s.guard s.act m w

      by_found : (o : Option ℕ) → first_exposed kinds s.guard s.act ≡ o → option_map_or (λ k. not (exposes_another kinds s.guard s.act k)) o true ≡ true →
          (k j : ℕ) → exposes kinds s.guard s.act k ≡ true → exposes kinds s.guard s.act j ≡ true → j ≡ k
      by_found None f t k j hk hj =
          let within = exposed_within k hk in
          absurd (true≢false (sym (any_at (exposes kinds s.guard s.act) 0 (length kinds) k (omega arith) (omega (arith, within)) hk) ∙ found_none (exposes kinds s.guard s.act) (places kinds) f))
      by_found (Some m) f t k j hk hj = is_m j hj ∙ sym (is_m k hk)
        where
          is_m : (i : ℕ) → exposes kinds s.guard s.act i ≡ true → i ≡ m
          is_m i h = elim (cases_eq i m) [
            | inl e ↦ e
            | inr ne ↦
                let within = exposed_within i h in
                let other : exposes_another kinds s.guard s.act m ≡ true =
                any_at (λ n. not (nat_eq n m) && exposes kinds s.guard s.act n) 0 (length kinds) i (omega arith) (omega (arith, within))
                (and_from (not (nat_eq i m)) (exposes kinds s.guard s.act i) (not_from_false (nat_eq i m) (ne_eqb i m ne)) h) in
                absurd (true≢false (sym other ∙ not-true (exposes_another kinds s.guard s.act m) t))
          ]

  -- one access, in each of its forms
  one_access : is_one_access kinds s.guard s.act ≡ true → ExposesOne kinds s ⊎ ((state : State) → step_made kinds state s.guard s.act ≤ 1)
  one_access h =
      elim (or_cases (exposes_one kinds s.guard s.act) (not (is_exposed_twice kinds s.guard s.act) || is_chosen kinds s.guard s.act) h) [
        | inl one ↦ inl (one_exposed one)
        | inr more ↦
            elim (or_cases (not (is_exposed_twice kinds s.guard s.act)) (is_chosen kinds s.guard s.act) more) [
              | inl once ↦ inr (λ state. step_once kinds state s.guard s.act (not-true (is_exposed_twice kinds s.guard s.act) once))
              | inr chosen ↦ inr (λ state. chosen_step_once kinds state s.guard s.act chosen)
            ]
      ]

-- where nothing comes first, and nothing after it
both_none : (o r : Option Unplanned) → option_map_or (λ u. Some u) o r ≡ None → (o ≡ None) × (r ≡ None)
both_none None r h = (refl, h)
both_none (Some u) r h = cc h

-- where no step fails, none of a part does
module _ (p : ProgramTree) (order : List (Option Rank)) (kinds : List Kind) where
  part_right : (m : ℕ) (parts : List PartTree) (i : ℕ) (part : PartTree) → failing (views_from p order kinds m parts) ≡ None → slice_get parts i ≡ Some part → failing_step (kinds_for p order kinds (m + i)) (steps part.body) ≡ None
  part_right m [] i part h e = absurd (nothing_there i e)
    where
      nothing_there : (i : ℕ) → slice_get (let none : List PartTree = [] in none) i ≡ Some part → ⊥
      nothing_there zero e = cc e
      nothing_there (suc i) e = cc e
  part_right m (q ∷ parts) zero part h e =
      let first = (both_none (failing_step (kinds_for p order kinds m) (steps q.body)) (failing (views_from p order kinds (m + 1) parts)) h).0 in
      let same : q ≡ part = cc e in
      let place : m ≡ m + 0 = omega arith in
      subst (λ n. failing_step (kinds_for p order kinds n) (steps part.body) ≡ None) place (subst (λ (r : PartTree). failing_step (kinds_for p order kinds m) (steps r.body) ≡ None) same first)
  part_right m (q ∷ parts) (suc i) part h e =
      let rest = (both_none (failing_step (kinds_for p order kinds m) (steps q.body)) (failing (views_from p order kinds (m + 1) parts)) h).1 in
      let place : m + 1 + i ≡ m + suc i = omega arith in
      subst (λ n. failing_step (kinds_for p order kinds n) (steps part.body) ≡ None) place (part_right (m + 1) parts i part rest e)

each_right : (kinds : List Kind) (ss : List StepTree) → failing_step kinds ss ≡ None → All (λ s. step_fault kinds s ≡ None) ss
each_right kinds [] h = All-nil (λ (s : StepTree). step_fault kinds s ≡ None)
each_right kinds (s ∷ ss) h =
    let parts = both_none (step_fault kinds s) (failing_step kinds ss) h in
    All-cons (λ (t : StepTree). step_fault kinds t ≡ None) s ss parts.0 (each_right kinds ss parts.1)

-- so each step is one access, and no late one touches a word at which parts are kept apart
module _ (kinds : List Kind) (order : List (Option Rank)) (p : ProgramTree) (sound : IsSound kinds order p) (i : ℕ) (s : StepTree) (at : IsStepOf p i s) where
  abbrev view : List Kind
  view = kinds_for p order kinds i

  step_right : (is_one_access view s.guard s.act ≡ true) × (late_word view s.guard s.act ≡ None)
  step_right =
      let place : 0 + i ≡ i = omega arith in
      let right = subst (λ n. failing_step (kinds_for p order kinds n) (steps at.0.body) ≡ None) place (part_right p order kinds 0 p.parts i at.0 sound.steps at.1) in
      by (is_one_access view s.guard s.act) (late_word view s.guard s.act) (All-contains (λ (t : StepTree). step_fault view t ≡ None) (steps at.0.body) s (each_right view (steps at.0.body) right) at.2)
    where
      by : (b : Bool) (o : Option ℕ) → cond b (option_map (late s) o) (Some (failed view s)) ≡ None → (b ≡ true) × (o ≡ None)
      by true None h = (refl, refl)
      by true (Some k) h = cc h
      by false o h = cc h

pub steps_are_one_access : StepsAreOneAccess
steps_are_one_access kinds order p sound i s at = one_access (kinds_for p order kinds i) s (step_right kinds order p sound i s at).0

-- the kind of a word to a part
kind_seen : (p : ProgramTree) (order : List (Option Rank)) (kinds : List Kind) (i k : ℕ) → k < length p.words →
    kind_at (kinds_for p order kinds i) k ≡ seen_kind (kind_at kinds k) (others_access p order i k)
kind_seen p order kinds i k less = get_or-map-range_with_len (λ j. seen_kind (kind_at kinds j) (others_access p order i j)) 0 (length p.words) k k Own less (omega arith)

pub steps_are_early : StepsAreEarly
steps_are_early kinds order p sound i s at k less e touched = by (is_early view s.guard s.act) refl (step_right kinds order p sound i s at).1
  where
    view : List Kind
    view = kinds_for p order kinds i

    here : ℕ → Bool
    here j = is_apart_kind (kind_at view j) && touches j s.guard s.act

    by : (b : Bool) → is_early view s.guard s.act ≡ b → cond b None (apart_word view s.guard s.act) ≡ None → is_early view s.guard s.act ≡ true
    by true early h = early
    by false late h =
        let size : length view ≡ length p.words = length-map-range_with_len (λ j. seen_kind (kind_at kinds j) (others_access p order i j)) 0 (length p.words) in
        let seen : kind_at view k ≡ Apart = kind_seen p order kinds i k less ∙ ap (λ (kind : Kind). seen_kind kind (others_access p order i k)) e in
        let some = any_at here 0 (length view) k (omega arith) (omega (arith, less, size)) (and_from (is_apart_kind (kind_at view k)) (touches k s.guard s.act) (ap (λ (kind : Kind). is_apart_kind kind) seen) touched) in
        absurd (true≢false (sym some ∙ found_none here (places view) h))

-- the kind of a word at which parties meet
module _ (kinds : List Kind) (order : List (Option Rank)) (p : ProgramTree) (typed : IsTypedProgram p) (sound : IsSound kinds order p) (k : ℕ) (less : k < length p.words) where
  pub by_kind : (G : Type 0) → (NobodyMeetsAt p k → G) → (kind_at kinds k ≡ Apart → world_meets p k ≡ false → G) → (kind_at kinds k ≡ Atomic → G) → (kind_at kinds k ≡ Guarded → G) → G
  by_kind G nobody kept atomic guarded = cases (kind_at kinds k) refl
    where
      cases : (kind : Kind) → kind_at kinds k ≡ kind → G
      cases Fixed e = nobody (fixed_apart p typed k ((sound.fixed k less).1 e))
      cases Own e = nobody (sound.own k less e)
      cases Apart e = kept e (not-true (world_meets p k) (and_parts (some_meet (accesses p k)) (not (world_meets p k)) (sound.apart k less e)).1)
      cases Published e = absurd (sound.published k less e)
      cases Sheltered e = absurd (sound.sheltered k less e)
      cases Atomic e = atomic e
      cases Guarded e = guarded e

module _ (p : ProgramTree) (k : ℕ) where
  -- how the i-th part accesses the word
  abbrev access_of : PartTree → Access
  access_of part = part_access k (steps part.body)

  party_at : (i : ℕ) (part : PartTree) (d : Access) → slice_get p.parts i ≡ Some part → get_or (accesses p k) (i + 1) d ≡ access_of part
  party_at i part d h =
      let next : i + 1 ≡ suc i = omega arith in
      let there : slice_get (map access_of p.parts) i ≡ Some (access_of part) = slice_get-map access_of p.parts i ∙ ap (λ (o : Option PartTree). option_map access_of o) h in
      ap (λ n. get_or (accesses p k) n d) next ∙ get_or_from_slice_get (map access_of p.parts) i (access_of part) d there

  party_within : (i : ℕ) (part : PartTree) → slice_get p.parts i ≡ Some part → i + 1 < length (accesses p k)
  party_within i part h =
      let size = length-map p.parts access_of in
      let within = slice_get_within p.parts i part h in
      omega (arith, size, within)

  touched_by : (part : PartTree) (s : StepTree) → Contains (steps part.body) s → touches k s.guard s.act ≡ true → is_touched (access_of part) ≡ true
  touched_by part s inside h =
      elim (or_cases (reads k s.guard s.act) (writes k s.act) h) [
        | inl r ↦ or_left (access_of part).reads (access_of part).writes (passes_at (λ (t : StepTree). reads k t.guard t.act) (steps part.body) s inside r)
        | inr w ↦ or_right (access_of part).reads (access_of part).writes (passes_at (λ (t : StepTree). writes k t.act) (steps part.body) s inside w)
      ]

  written_by : (part : PartTree) (s : StepTree) → Contains (steps part.body) s → writes k s.act ≡ true → (access_of part).writes ≡ true
  written_by part s inside h = passes_at (λ (t : StepTree). writes k t.act) (steps part.body) s inside h

  -- two parts that meet
  parts_meet : (i j : ℕ) → i ≢ j → (s t : StepTree) → IsStepOf p i s → IsStepOf p j t → writes k s.act ≡ true → touches k t.guard t.act ≡ true → NobodyMeetsAt p k → ⊥
  parts_meet i j ne s t a b writing touching nobody =
      elim (cases_order i j) [
        | inl e ↦ ne e
        | inr (inl l) ↦ true≢false (sym first ∙ met i j a.0 b.0 a.1 b.1 l)
        | inr (inr g) ↦ true≢false (sym second ∙ met j i b.0 a.0 b.1 a.1 g)
      ]
    where
      w : (access_of a.0).writes ≡ true
      w = written_by a.0 s a.2 writing

      u : is_touched (access_of b.0) ≡ true
      u = touched_by b.0 t b.2 touching

      first : meet (access_of a.0) (access_of b.0) ≡ true
      first = or_right (is_touched (access_of a.0) && (access_of b.0).writes) ((access_of a.0).writes && is_touched (access_of b.0)) (and_from (access_of a.0).writes (is_touched (access_of b.0)) w u)

      second : meet (access_of b.0) (access_of a.0) ≡ true
      second = or_left (is_touched (access_of b.0) && (access_of a.0).writes) ((access_of b.0).writes && is_touched (access_of a.0)) (and_from (is_touched (access_of b.0)) (access_of a.0).writes u w)

      met : (m n : ℕ) (x y : PartTree) → slice_get p.parts m ≡ Some x → slice_get p.parts n ≡ Some y → m < n → meet (access_of x) (access_of y) ≡ false
      met m n x y hx hy l =
          let d = access_of x in
          let apart = nobody (m + 1) (n + 1) d (omega (arith, l)) (party_within n y hy) in
          ap (λ (z : Access). meet z (access_of y)) (sym (party_at m x d hx)) ∙ ap (λ (z : Access). meet (get_or (accesses p k) (m + 1) d) z) (sym (party_at n y d hy)) ∙ apart

  -- a part that meets the world outside
  outside_meets : (i : ℕ) (s : StepTree) → IsStepOf p i s → touches k s.guard s.act ≡ true → is_touched (world_access k p.words p.spec.rely) ≡ true → (writes k s.act ≡ true) ⊎ ((world_access k p.words p.spec.rely).writes ≡ true) →
      ((d : Access) → meet (world_access k p.words p.spec.rely) (get_or (accesses p k) (i + 1) d) ≡ false) → ⊥
  outside_meets i s a touching outside writing unmet =
      elim writing [
        | inl h ↦ true≢false (sym (or_left (is_touched world && (access_of a.0).writes) (world.writes && is_touched (access_of a.0)) (and_from (is_touched world) (access_of a.0).writes outside (written_by a.0 s a.2 h))) ∙ met)
        | inr h ↦ true≢false (sym (or_right (is_touched world && (access_of a.0).writes) (world.writes && is_touched (access_of a.0)) (and_from world.writes (is_touched (access_of a.0)) h (touched_by a.0 s a.2 touching))) ∙ met)
      ]
    where
      world : Access
      world = world_access k p.words p.spec.rely

      met : meet world (access_of a.0) ≡ false
      met = ap (λ (z : Access). meet world z) (sym (party_at i a.0 world a.1)) ∙ unmet world

module _ (p : ProgramTree) (k : ℕ) where
  -- how a party accesses the word
  abbrev access_at : ℕ → Access
  access_at j = get_or (accesses p k) j no_access

  meet_not : (m n : ℕ) → m ≢ n → m < length (accesses p k) → n < length (accesses p k) → is_touched (access_at m) ≡ true → (access_at n).writes ≡ true → NobodyMeetsAt p k → ⊥
  meet_not m n ne hm hn touched writing nobody =
      elim (cases_order m n) [
        | inl e ↦ ne e
        | inr (inl l) ↦
            true≢false (sym (or_left (is_touched (access_at m) && (access_at n).writes) ((access_at m).writes && is_touched (access_at n)) (and_from (is_touched (access_at m)) (access_at n).writes touched writing))
            ∙ nobody m n no_access l hn)
        | inr (inr g) ↦
            true≢false (sym (or_right (is_touched (access_at n) && (access_at m).writes) ((access_at n).writes && is_touched (access_at m)) (and_from (access_at n).writes (is_touched (access_at m)) writing touched))
            ∙ nobody n m no_access g hm)
      ]

  module _ (i : ℕ) (s : StepTree) (at : IsStepOf p i s) where
    own_within : i + 1 < length (accesses p k)
    own_within = party_within p k i at.0 at.1

    own_touched : touches k s.guard s.act ≡ true → is_touched (access_at (i + 1)) ≡ true
    own_touched h = ap (λ (z : Access). is_touched z) (party_at p k i at.0 no_access at.1) ∙ touched_by p k at.0 s at.2 h

    own_written : writes k s.act ≡ true → (access_at (i + 1)).writes ≡ true
    own_written h = ap (λ (z : Access). z.writes) (party_at p k i at.0 no_access at.1) ∙ written_by p k at.0 s at.2 h

    -- where nobody meets at the word, no party writes what the step reads, or touches what it writes, that may act meanwhile
    apart_writes : (order : List (Option Rank)) → NobodyMeetsAt p k → reads k s.guard s.act ≡ true → NoOtherWrites p order i k
    apart_writes order nobody h j within may =
        false_from_ne_true (access_at j).writes (λ w.
        meet_not (i + 1) j (λ e. another order i j may (sym e)) own_within within (own_touched (or_left (reads k s.guard s.act) (writes k s.act) h)) w nobody)

    apart_touches : (order : List (Option Rank)) → NobodyMeetsAt p k → writes k s.act ≡ true → NoOtherTouches p order i k
    apart_touches order nobody h j within may =
        false_from_ne_true (is_touched (access_at j)) (λ t. meet_not j (i + 1) (another order i j may) within own_within t (own_written h) nobody)

    -- a part during whose steps no party may act that touches the word interrupts that of the step
    interrupted : (order : List (Option Rank)) (j : ℕ) → j ≢ i → touches k s.guard s.act ≡ true → NoOtherTouches p order j k → interrupts order j i ≡ true
    interrupted order j ne touched none =
        true_from_ne_false (interrupts order j i) (λ still. true≢false (sym (own_touched touched) ∙ none (i + 1) own_within (acts order j i ne still)))

  module _ (order : List (Option Rank)) (i : ℕ) where
    -- where none of the others writes, or touches
    unwritten : (others_access p order i k).writes ≡ false → NoOtherWrites p order i k
    unwritten h j within may =
        false_from_ne_true (access_at j).writes (λ w.
        true≢false (sym (any_at (λ n. may_act order i n && (access_at n).writes) 0 (length (accesses p k)) j (omega arith) (omega (arith, within)) (and_from (may_act order i j) (access_at j).writes may w)) ∙ h))

    unread : (others_access p order i k).reads ≡ false → (j : ℕ) → j < length (accesses p k) → may_act order i j ≡ true → (access_at j).reads ≡ false
    unread h j within may =
        false_from_ne_true (access_at j).reads (λ r.
        true≢false (sym (any_at (λ n. may_act order i n && (access_at n).reads) 0 (length (accesses p k)) j (omega arith) (omega (arith, within)) (and_from (may_act order i j) (access_at j).reads may r)) ∙ h))

    untouched : is_touched (others_access p order i k) ≡ false → NoOtherTouches p order i k
    untouched h j within may =
        let parts = or_parts (others_access p order i k).reads (others_access p order i k).writes h in
        or_from (access_at j).reads (access_at j).writes (unread parts.0 j within may) (unwritten parts.1 j within may)

    none_writes : NoOtherTouches p order i k → NoOtherWrites p order i k
    none_writes none j within may = (or_parts (access_at j).reads (access_at j).writes (none j within may)).1

pub guarded_in_sections : GuardedWordsInSections
guarded_in_sections kinds order p i s k less e touched = by (is_touched (others_access p order i k)) refl
  where
    view : List Kind
    view = kinds_for p order kinds i

    by : (b : Bool) → is_touched (others_access p order i k) ≡ b → (way_of view s.guard s.act ≡ Section) ⊎ NoOtherTouches p order i k
    by true met =
        let seen : kind_at view k ≡ Guarded = kind_seen p order kinds i k less ∙ ap (λ (kind : Kind). seen_kind kind (others_access p order i k)) e ∙ ap (λ b. cond b Guarded Own) met in
        inl (guarded_in_section view s k seen touched)
    by false none = inr (untouched p k order i none)

pub others_meet_nobody : OthersMeetNobody
others_meet_nobody kinds order p typed sound i s at k less unexposed free unkept =
    by_kind kinds order p typed sound k less MeetsNobody
    (λ nobody. (apart_writes p k i s at order nobody, apart_touches p k i s at order nobody))
    (λ e unmet. absurd (unkept e))
    (by_writes others.writes others.reads refl refl)
    (by_touch (is_touched others) refl)
  where
    view : List Kind
    view = kinds_for p order kinds i

    others : Access
    others = others_access p order i k

    MeetsNobody : Type 0
    MeetsNobody = (reads k s.guard s.act ≡ true → NoOtherWrites p order i k) × (writes k s.act ≡ true → NoOtherTouches p order i k)

    hidden : (kind : Kind) → kind_at view k ≡ kind → ((is_atomic kind && touches k s.guard s.act) || (is_published kind && writes k s.act)) ≡ false
    hidden kind e = ap (λ (l : Kind). (is_atomic l && touches k s.guard s.act) || (is_published l && writes k s.act)) (sym e) ∙ unexposed

    seen_as : (kind : Kind) → kind_at kinds k ≡ kind → kind_at view k ≡ seen_kind kind others
    seen_as kind e = kind_seen p order kinds i k less ∙ ap (λ (l : Kind). seen_kind l others) e

    by_writes : (w r : Bool) → others.writes ≡ w → others.reads ≡ r → kind_at kinds k ≡ Atomic → MeetsNobody
    by_writes true r written read e =
        let seen : kind_at view k ≡ Atomic = seen_as Atomic e ∙ ap (λ b. cond b Atomic (cond others.reads Published Sheltered)) written in
        let none = or_parts (reads k s.guard s.act) (writes k s.act) (or_parts (touches k s.guard s.act) false (hidden Atomic seen)).0 in
        (λ h. absurd (true≢false (sym h ∙ none.0)), λ h. absurd (true≢false (sym h ∙ none.1)))
    by_writes false true written read e =
        let seen : kind_at view k ≡ Published =
        seen_as Atomic e ∙ ap (λ b. cond b Atomic (cond others.reads Published Sheltered)) written ∙ ap (λ b. cond b Published Sheltered) read in
        (λ h. unwritten p k order i written, λ h. absurd (true≢false (sym h ∙ hidden Published seen)))
    by_writes false false written read e = (λ h. unwritten p k order i written, λ h. untouched p k order i (or_from others.reads others.writes read written))

    by_touch : (b : Bool) → is_touched others ≡ b → kind_at kinds k ≡ Guarded → MeetsNobody
    by_touch true met e = absurd (free (seen_as Guarded e ∙ ap (λ b. cond b Guarded Own) met))
    by_touch false none e = let alone = untouched p k order i none in (λ h. none_writes p k order i alone, λ h. alone)

pub no_races : NoRaces
no_races kinds order p typed sound i j ne s t a b k less writing touching unkept =
    by_kind kinds order p typed sound k less ((kind_at kinds k ≡ Atomic) ⊎ (KeepsOff kinds order p i j s t ⊎ KeepsOff kinds order p j i t s))
    (λ nobody. absurd (parts_meet p k i j ne s t a b writing touching nobody))
    (λ e unmet. absurd (unkept e))
    (λ e. inl e)
    (λ e. inr (kept e))
  where
    touched : touches k s.guard s.act ≡ true
    touched = or_right (reads k s.guard s.act) (writes k s.act) writing

    kept : kind_at kinds k ≡ Guarded → KeepsOff kinds order p i j s t ⊎ KeepsOff kinds order p j i t s
    kept e = elim (guarded_in_sections kinds order p i s k less e touched) [
      | inl first ↦
          elim (guarded_in_sections kinds order p j t k less e touching) [
            | inl second ↦ inl (first, inl second)
            | inr alone ↦ inl (first, inr (interrupted p k i s a order j (λ q. ne (sym q)) touched alone))
          ]
      | inr alone ↦
          elim (guarded_in_sections kinds order p j t k less e touching) [
            | inl second ↦ inr (second, inr (interrupted p k j t b order i ne touching alone))
            | inr other ↦ absurd (never_both order i j (interrupted p k j t b order i ne touching alone) (interrupted p k i s a order j (λ q. ne (sym q)) touched other))
          ]
    ]

pub no_races_outside : NoRacesOutside
no_races_outside kinds order p typed sound i s a k less touching outside writing =
    by_kind kinds order p typed sound k less (kind_at kinds k ≡ Atomic)
    (λ nobody. met (λ d. nobody 0 (i + 1) d (omega arith) (party_within p k i a.0 a.1)))
    (λ e unmet. met (λ d. all_fail (meet (world_access k p.words p.spec.rely)) (accesses p k) unmet (i + 1) d (party_within p k i a.0 a.1)))
    (λ e. e)
    (λ e. absurd (true≢false (sym outside ∙ sound.guarded k less e)))
  where
    met : ((d : Access) → meet (world_access k p.words p.spec.rely) (get_or (accesses p k) (i + 1) d) ≡ false) → kind_at kinds k ≡ Atomic
    met unmet = absurd (outside_meets p k i s a touching outside writing unmet)
