-- One more step keeps a floor legal.
use Rattle.std.proofs.Common.{◌≡◌, ℕ, ◌+◌, ◌<◌, ◌≤◌, ◌==◌, Bool, true, false, ◌||◌, List, [], ◌∷◌, ◌++◌, length, refl, sym, ap, ◌∙◌, subst, arith, rules, inl, inr}
use Rattle.std.specs.Prelude.{if◌then◌else◌, not, All, Some, None, Result, Ok, Err, map}
use Rattle.std.specs.Str.{bytes_eq}
use Rattle.std.specs.declared.alloc.AllocError.{AllocError}
use Rattle.std.proofs.lemmas.Bool.Decides.{nat_tests}
use Rattle.std.proofs.lemmas.List.{map-append}
use Rattle.std.proofs.lemmas.List.Elements.{All-nil, All-push}
use Rattle.rg_words.specs.Layout.{widths_of}
use Rattle.rg_words.specs.States.{Valuation, AreValues, IsState, IsPair}
use Rattle.rg_words.specs.declared.limits.TheConstants.{MOST_RUN_STEPS}
use Rattle.rg_words.specs.declared.refusal.Refusal.{Refusal}
use Rattle.rg_words.specs.declared.refusal.RefusalNumber.TheVariants.{MovesEnded, FixedMoved, OutsideRely}
use Rattle.rg_words.proofs.Values.{length-AreValues}
use Rattle.rg_tree.specs.Trees.{Proposition}
use Rattle.rg_tree.specs.Meaning.{holds}
use Rattle.rg_tree.specs.Inside.{is_inside}
use Rattle.rg_tree.specs.Statements.{ProgramTree}
use Rattle.rg_tree.specs.Traces.{State, Step, Inside, IsTraceOf, holds_at, last_of}
use Rattle.rg_tree.specs.Programs.{OthersInside}
use Rattle.rg_tree.specs.Moves.{IsValueOf}
use Rattle.rg_code.specs.Code.{BlockTree, PlacesGo, zeros, is_end, all_at_end}
use Rattle.rg_machine.specs.Machine.{Configuration}
use Rattle.rg_monitor.specs.Entry.{Entry, entry_of}
use Rattle.rg_floor.specs.Changes.{Changing, changed, rebuilt, state_after, change_of}
use Rattle.rg_floor.specs.History.{FloorView, step_of, steps_of, own_steps, change_in, IsRecordAt, RecordsLead, IsLegal, GoTogether}
use Rattle.rg_floor.specs.Ready.{block_at, line_at, can_go, any_can_go}
use Rattle.rg_floor.specs.Turns.{case_of, Goes, MoveGives}
use Rattle.rg_floor.specs.Inner.Kept.{IsKept, view_of}
use Rattle.rg_floor.specs.Steps.{StepMakes, MoveMakes}
use Rattle.rg_floor.specs.declared.turn.Case.{Case}
use Rattle.rg_floor.specs.declared.turn.Case.TheVariants.{IsOver, AtEnd, Waits, Steps}
use Rattle.rg_floor.specs.declared.turn.Why.TheVariants.{Ended as all_ended, Limit, Stuck, Stopped}
use Rattle.rg_floor.specs.declared.turn.Turn.TheVariants.{Did}
use Rattle.rg_floor.proofs.Histories.{length-rebuilt, rebuilt-push, state_after-push, last_of-rebuilt, given-changed, changed-fits, steps_of-push, IsTraceOf-push, OthersInside-push, own_steps-push, RecordsLead-push, goes_sized, stays, length-zeros}
use Rattle.rg_floor.proofs.Readiness.{same_by_test}

-- the records after one more change
pub history-push : (p : ProgramTree) (start s t : State) (changes : List Changing) (who line : ℕ) → s ≡ state_after start changes → length s ≡ length t
    → rebuilt p 0 start (changes ++ change_of who line s t ∷ []) ≡ rebuilt p 0 start changes ++ entry_of p (length (rebuilt p 0 start changes) + 1) who line s t ∷ []
history-push p start s t changes who line is same =
    let k : length (rebuilt p 0 start changes) + 1 ≡ length changes + 0 + 1 = omega (arith, length-rebuilt p 0 start changes) in
    rebuilt-push p 0 (length (rebuilt p 0 start changes) + 1) start changes (change_of who line s t) k
    ∙ (λ i. rebuilt p 0 start changes ++ entry_of p (length (rebuilt p 0 start changes) + 1) who line (sym is i) (Rattle.rg_tree.specs.Moves.given (changed 0 s t) (sym is i)) ∷ [])
    ∙ ap (λ w. rebuilt p 0 start changes ++ entry_of p (length (rebuilt p 0 start changes) + 1) who line s w ∷ []) (given-changed s t same)

-- both states of a pair have as many values
pub pair_sized : (words : List _) (s t : State) → IsPair words s t → length s ≡ length t
pair_sized words s t h = sym (length-AreValues (widths_of words) s h.first) ∙ length-AreValues (widths_of words) t h.second

-- what a floor keeps after one more step, of a part or of the environment
pub kept_step : (p : ProgramTree) (codes : List (List BlockTree)) (start : State) (limit : ℕ) (code : List (List BlockTree)) (c ahead : Configuration) (first scratch : Valuation) (changes : List Changing) (most own total : ℕ)
    → IsKept p codes start limit code c ahead first scratch changes most own total
    → (who : ℕ) (d : Configuration) (own' total' : ℕ)
    → d.words ≡ c.words → d.codes ≡ c.codes → who ≤ length codes
    → PlacesGo 1 codes c.places d.places c.state (record { who = who; after = d.state })
    → IsPair p.words c.state d.state
    → (who ≡ 0 → Inside (holds p.spec.rely) c.state d.state)
    → own' ≡ own + (if who == 0 then 0 else 1) → own' ≤ limit → total' ≡ own'
    → IsKept p codes start limit code d d first scratch (changes ++ change_of who (line_at codes c.places who) c.state d.state ∷ []) most own' total'
kept_step p codes start limit code c ahead first scratch changes most own total k who d own' total' words_same codes_same known goes pair rely more within booked =
    let old = rebuilt p 0 start changes in
    let line = line_at codes c.places who in
    let new = entry_of p (length old + 1) who line c.state d.state in
    let same = pair_sized p.words c.state d.state pair in
    let e : rebuilt p 0 start (changes ++ change_of who line c.state d.state ∷ []) ≡ old ++ new ∷ [] = history-push p start c.state d.state changes who line k.words_are same in
    let last : c.state ≡ last_of start (steps_of old) = k.words_are ∙ sym (last_of-rebuilt p 0 start changes) in
    let T : List Step → Type 0 = λ xs. IsTraceOf p.words (length codes) start xs in
    let O : List Step → Type 0 = λ xs. OthersInside (holds p.spec.rely) start xs in
    let R : List Entry → Type 0 = λ rs. RecordsLead p codes 0 (zeros codes) start rs d.places in
    let I : State → Type 0 = λ s. Inside (holds p.spec.rely) s d.state in
    let Q : State → Type 0 = λ s. IsPair p.words s d.state in
    let G : State → Type 0 = λ s. PlacesGo 1 codes c.places d.places s (record { who = who; after = d.state }) in
    let F : State → Type 0 = λ s. IsRecordAt p codes (length old) c.places s new in
    let steps : steps_of (rebuilt p 0 start (changes ++ change_of who line c.state d.state ∷ [])) ≡ steps_of old ++ step_of new ∷ [] = ap steps_of e ∙ steps_of-push old new in
    let fits : IsRecordAt p codes (length old) c.places c.state new = record { number = refl; before = refl; line = refl; cover = refl } in
    record {
      code_is = k.code_is;
      words_kept = words_same ∙ k.words_kept;
      codes_are = codes_same ∙ k.codes_are;
      ahead_is = refl;
      first_widths = k.first_widths;
      first_is = k.first_is;
      scratch_widths = k.scratch_widths;
      most_is = k.most_is;
      small = k.small;
      sized = (goes_sized 1 codes c.places d.places c.state (record { who = who; after = d.state }) goes).1;
      lawful = k.lawful;
      start_in_pre = k.start_in_pre;
      trace = subst T (sym steps) (IsTraceOf-push p.words (length codes) start (steps_of old) (step_of new) k.trace known (subst Q last pair));
      leads = subst R (sym e) (RecordsLead-push p codes 0 (length old) _ c.places d.places start old new k.leads (omega arith) (subst F last fits) (subst G last goes));
      words_are = sym (state_after-push start changes (change_of who line c.state d.state) ∙ ap (λ s. Rattle.rg_tree.specs.Moves.given (changed 0 c.state d.state) s) (sym k.words_are) ∙ given-changed c.state d.state same);
      rely = subst O (sym steps) (OthersInside-push (holds p.spec.rely) start (steps_of old) (step_of new) k.rely (λ h. subst I last (rely h)));
      own_is = more ∙ ap (λ n. n + (if who == 0 then 0 else 1)) k.own_is ∙ sym (own_steps-push old new) ∙ sym (ap own_steps e);
      within = within;
      booked = booked;
      fit = All-push (λ (x : Changing). All (IsValueOf (widths_of p.words)) x.values) changes (change_of who line c.state d.state) k.fit (changed-fits (widths_of p.words) c.state d.state pair.second);
      exact = ap (λ (xs : List Changing). xs ++ change_of who line c.state d.state ∷ []) k.exact ∙ sym (ap (λ (rs : List Entry). map change_in rs) e ∙ map-append change_in old (new ∷ []));
    }

-- what is kept says of other room for moves too
pub kept_scratch : (p : ProgramTree) (codes : List (List BlockTree)) (start : State) (limit : ℕ) (code : List (List BlockTree)) (c ahead : Configuration) (first scratch scratch' : Valuation) (changes : List Changing) (most own total : ℕ)
    → IsKept p codes start limit code c ahead first scratch changes most own total → scratch'.widths ≡ scratch.widths
    → IsKept p codes start limit code c ahead first scratch' changes most own total
kept_scratch p codes start limit code c ahead first scratch scratch' changes most own total k same =
    record {
      code_is = k.code_is;
      words_kept = k.words_kept;
      codes_are = k.codes_are;
      ahead_is = k.ahead_is;
      first_widths = k.first_widths;
      first_is = k.first_is;
      scratch_widths = same ∙ k.scratch_widths;
      most_is = k.most_is;
      small = k.small;
      sized = k.sized;
      lawful = k.lawful;
      start_in_pre = k.start_in_pre;
      trace = k.trace;
      leads = k.leads;
      words_are = k.words_are;
      rely = k.rely;
      own_is = k.own_is;
      within = k.within;
      booked = k.booked;
      fit = k.fit;
      exact = k.exact;
    }

-- a move that isn't refused is inside the rely
unrefused : (a b e : Bool) → (if not a then Some MovesEnded else if not b then Some FixedMoved else if not e then Some OutsideRely else None) ≡ None → e ≡ true
unrefused true true true h = refl
unrefused true true false h = cc
unrefused true false e h = cc
unrefused false b e h = cc

-- what the test says
inside_by_test : (f : Proposition) (s t : State) → is_inside f s t ≡ true → Inside (holds f) s t
inside_by_test f s t e =
    elim (holds f s t) as (λ b. holds f s t ≡ b → (b || bytes_eq s t) ≡ true → Inside (holds f) s t) [ true ↦ λ h g. inl h | false ↦ λ h g. inr (sym (same_by_test s t g)) ] refl e

-- the case of a step alone says this much
pub pick_steps : (a b c d e f : Bool)
    → (if a then IsOver Stopped else if b then IsOver all_ended else if c then IsOver Limit else if d then AtEnd else if e then (if f then Steps else Waits) else IsOver Stuck) ≡ Steps
    → (c ≡ false) × (f ≡ true)
pick_steps true b c d e f h = cc
pick_steps false true c d e f h = cc
pick_steps false false true d e f h = cc
pick_steps false false false true e f h = cc
pick_steps false false false false false f h = cc
pick_steps false false false false true true h = (refl, refl)
pick_steps false false false false true false h = cc

module _ (p : ProgramTree) (codes : List (List BlockTree)) (start : State) (limit : ℕ) (code : List (List BlockTree)) (c ahead : Configuration) (first scratch : Valuation) (changes : List Changing) (most own total : ℕ) (k : IsKept p codes start limit code c ahead first scratch changes most own total) where
  -- the count of records is that of changes
  pub counted : length changes + 1 ≡ length (rebuilt p 0 start changes) + 1
  counted = omega (arith, length-rebuilt p 0 start changes)

  -- what a floor keeps after the step of a part
  kept_turn_of : (who total' : ℕ) → 0 < who → who ≤ length codes → own + 1 ≤ limit → total' ≡ total + 1
      → (r : Entry) (d ahead' : Configuration) (changes' : List Changing) → StepMakes p c changes who (Ok r) d ahead' changes'
      → IsKept p codes start limit code d ahead' first scratch changes' most (own + 1) total'
  kept_turn_of who total' some known within booked r d ahead' changes' m =
      let step : Step = record { who = who; after = d.state } in
      let goes : PlacesGo 1 codes c.places d.places c.state step = subst (λ (cs : List (List BlockTree)). PlacesGo 1 cs c.places d.places c.state step) k.codes_are m.0.goes in
      let pair : IsPair p.words c.state d.state = subst (λ (ws : List _). IsPair ws c.state d.state) k.words_kept m.0.pair in
      let apart : (who == 0) ≡ false = search (rules, some) in
      let one : own + 1 ≡ own + (if who == 0 then 0 else 1) = rw apart in
      let new = kept_step p codes start limit code c ahead first scratch changes most own total k who d (own + 1) total' m.0.words m.0.codes known goes pair (λ e. absurd (omega (arith, some, e))) one within (omega (arith, k.booked, booked)) in
      let there : changes' ≡ changes ++ change_of who (line_at codes c.places who) c.state d.state ∷ [] = m.3 ∙ ap (λ cs. changes ++ change_of who (line_at cs c.places who) c.state d.state ∷ []) k.codes_are in
      let P : Configuration → List Changing → Type 0 = λ x y. IsKept p codes start limit code d x first scratch y most (own + 1) total' in
      subst (λ (y : List Changing). P ahead' y) (sym there) (subst (λ (x : Configuration). P x (changes ++ change_of who (line_at codes c.places who) c.state d.state ∷ [])) (sym m.2) new)

  -- what contracts see of it
  goes_turn_of : (stopped more : Bool) (f : FloorView) → view_of p start c changes stopped more ≡ f
      → (who had has : ℕ) → has ≡ had + 1
      → (r : Entry) (d ahead' : Configuration) (changes' : List Changing) → StepMakes p c changes who (Ok r) d ahead' changes'
      → Goes p codes f who (Did r) (view_of p start d changes' stopped more) had has
  goes_turn_of stopped more f view who had has count r d ahead' changes' m =
      let step : Step = record { who = who; after = d.state } in
      let goes : PlacesGo 1 codes c.places d.places c.state step = subst (λ (cs : List (List BlockTree)). PlacesGo 1 cs c.places d.places c.state step) k.codes_are m.0.goes in
      let pair : IsPair p.words c.state d.state = subst (λ (ws : List _). IsPair ws c.state d.state) k.words_kept m.0.pair in
      let there : changes' ≡ changes ++ change_of who (line_at codes c.places who) c.state d.state ∷ [] = m.3 ∙ ap (λ cs. changes ++ change_of who (line_at cs c.places who) c.state d.state ∷ []) k.codes_are in
      let past : rebuilt p 0 start changes' ≡ rebuilt p 0 start changes ++ entry_of p (length (rebuilt p 0 start changes) + 1) who (line_at codes c.places who) c.state d.state ∷ [] =
      ap (rebuilt p 0 start) there ∙ history-push p start c.state d.state changes who (line_at codes c.places who) k.words_are (pair_sized p.words c.state d.state pair) in
      let here : Goes p codes (view_of p start c changes stopped more) who (Did r) (view_of p start d changes' stopped more) had has = record {
        step = record { words = refl; codes = refl; goes = goes; pair = pair };
        answer = ap Did (m.1 ∙ (λ i. entry_of p (counted i) who (line_at (k.codes_are i) c.places who) c.state d.state));
        floor = (λ i. record { words = d.state; places = d.places; changes = there i; history = past i; stopped = stopped; more = more });
        count = count;
      } in
      subst (λ (x : FloorView). Goes p codes x who (Did r) (view_of p start d changes' stopped more) had has) view here

  -- what a floor keeps after a move, and after a refusal
  kept_try_of : (m : Bool) (t : State) (r : Result Entry Refusal) (d ahead' : Configuration) (changes' : List Changing) → MoveMakes p m c changes t r d ahead' changes'
      → IsKept p codes start limit code d ahead' first scratch changes' most own total
  kept_try_of m t (Ok r) d ahead' changes' h =
      let e : Configuration = record c { state = t } in
      let pair : IsPair p.words c.state t = subst (λ (ws : List _). IsPair ws c.state t) k.words_kept h.1 in
      let step : Step = record { who = 0; after = t } in
      let new = kept_step p codes start limit code c ahead first scratch changes most own total k 0 e own total refl refl (omega arith) (stays 1 codes c.places c.state step (omega arith) refl k.sized) pair (λ z. inside_by_test p.spec.rely c.state t (unrefused m _ _ h.0)) (omega arith) k.within k.booked in
      let P : Configuration → Configuration → List Changing → Type 0 = λ x y z. IsKept p codes start limit code x y first scratch z most own total in
      subst (λ (z : List Changing). P d ahead' z) (sym h.5) (subst (λ (y : Configuration). P d y (changes ++ change_of 0 0 c.state t ∷ [])) (sym h.4) (subst (λ (x : Configuration). P x x (changes ++ change_of 0 0 c.state t ∷ [])) (sym h.3) new))
  kept_try_of m t (Err e) d ahead' changes' h =
      let P : Configuration → Configuration → List Changing → Type 0 = λ x y z. IsKept p codes start limit code x y first scratch z most own total in
      subst (λ (z : List Changing). P d ahead' z) (sym h.3) (subst (λ (y : Configuration). P d y changes) (sym (h.2 ∙ sym k.ahead_is)) (subst (λ (x : Configuration). P x ahead changes) (sym h.1) k))

  -- what contracts see of it
  gives_try_of : (stopped more : Bool) (f : FloorView) → view_of p start c changes stopped more ≡ f
      → (t : State) (r : Result Entry Refusal) (d ahead' : Configuration) (changes' : List Changing) → MoveMakes p more c changes t r d ahead' changes'
      → MoveGives p codes f t r (view_of p start d changes' stopped more)
  gives_try_of stopped more f view t (Ok r) d ahead' changes' h =
      let past : rebuilt p 0 start changes' ≡ rebuilt p 0 start changes ++ entry_of p (length (rebuilt p 0 start changes) + 1) 0 0 c.state t ∷ [] =
      ap (rebuilt p 0 start) h.5 ∙ history-push p start c.state t changes 0 0 k.words_are (pair_sized c.words c.state t h.1) in
      let f' = view_of p start c changes stopped more in
      let here : MoveGives p codes f' t (Ok r) (view_of p start d changes' stopped more) =
      (h.0, h.2 ∙ (λ i. entry_of p (counted i) 0 0 c.state t), (λ i. record { words = (h.3 i).state; places = (h.3 i).places; changes = h.5 i; history = past i; stopped = stopped; more = more })) in
      subst (λ (x : FloorView). MoveGives p codes x t (Ok r) (view_of p start d changes' stopped more)) view here
  gives_try_of stopped more f view t (Err e) d ahead' changes' h =
      let f' = view_of p start c changes stopped more in
      let here : MoveGives p codes f' t (Err e) (view_of p start d changes' stopped more) =
      (h.0, (λ i. view_of p start (h.1 i) (h.3 i) stopped more)) in
      subst (λ (x : FloorView). MoveGives p codes x t (Err e) (view_of p start d changes' stopped more)) view here

  -- what is kept makes the floor legal
  pub legal_kept : (stopped more : Bool) (f : FloorView) → view_of p start c changes stopped more ≡ f → IsLegal p codes start limit f
  legal_kept stopped more f view =
      let here : IsLegal p codes start limit (view_of p start c changes stopped more) = record {
        lawful = k.lawful;
        start_in_pre = k.start_in_pre;
        history_is = refl;
        changes_are = k.exact;
        trace = k.trace;
        leads = k.leads;
        words_are = k.words_are ∙ sym (last_of-rebuilt p 0 start changes);
        rely = k.rely;
        within = omega (arith, k.own_is, k.within);
      } in
      subst (λ (x : FloorView). IsLegal p codes start limit x) view here

  -- where the case is a step, the part can make it, below the limit
  pub steps_can : (stopped more : Bool) (f : FloorView) → view_of p start c changes stopped more ≡ f → (who : ℕ) → case_of codes limit f who ≡ Steps
      → (can_go (block_at c.codes c.places who) c.state ≡ true) × (own + 1 ≤ limit)
  steps_can stopped more f view who h =
      let f' = view_of p start c changes stopped more in
      let h' : case_of codes limit f' who ≡ Steps = ap (λ x. case_of codes limit x who) view ∙ h in
      let r = pick_steps stopped (all_at_end codes c.places) (own_steps (rebuilt p 0 start changes) == limit) (is_end (block_at codes c.places who)) (any_can_go codes c.places c.state || more) (can_go (block_at codes c.places who) c.state) h' in
      let left : (own_steps (rebuilt p 0 start changes) == limit) ≡ false = r.0 in
      ((λ i. can_go (block_at (k.codes_are i) c.places who) c.state) ∙ r.1, grind (arith, nat_tests, k.own_is, k.within, left))

  -- which case a turn is, by the fields
  pub case_at : (stopped more : Bool) (f : FloorView) → view_of p start c changes stopped more ≡ f → (who : ℕ) (x : Case)
      → x ≡ (if stopped then IsOver Stopped else if all_at_end c.codes c.places then IsOver all_ended else if own == most then IsOver Limit else if is_end (block_at c.codes c.places who) then AtEnd else if any_can_go c.codes c.places c.state || more then (if can_go (block_at c.codes c.places who) c.state then Steps else Waits) else IsOver Stuck)
      → x ≡ case_of codes limit f who
  case_at stopped more f view who x is =
      is ∙ (λ i. if stopped then IsOver Stopped else if all_at_end (k.codes_are i) c.places then IsOver all_ended else if k.own_is i == k.most_is i then IsOver Limit else if is_end (block_at (k.codes_are i) c.places who) then AtEnd else if any_can_go (k.codes_are i) c.places c.state || more then (if can_go (block_at (k.codes_are i) c.places who) c.state then Steps else Waits) else IsOver Stuck)
      ∙ ap (λ g. case_of codes limit g who) view

  -- the same, as the calls say it of the program that is lent
  step_here : (program : ProgramTree) → program ≡ p → (who : ℕ) (r : Result Entry AllocError) (d ahead' : Configuration) (changes' : List Changing) → StepMakes program c changes who r d ahead' changes' → StepMakes p c changes who r d ahead' changes'
  step_here program same who r d ahead' changes' m = subst (λ (q : ProgramTree). StepMakes q c changes who r d ahead' changes') same m

  move_here : (program : ProgramTree) → program ≡ p → (m : Bool) (t : State) (r : Result Entry Refusal) (d ahead' : Configuration) (changes' : List Changing) → MoveMakes program m c changes t r d ahead' changes' → MoveMakes p m c changes t r d ahead' changes'
  move_here program same m t r d ahead' changes' h = subst (λ (q : ProgramTree). MoveMakes q m c changes t r d ahead' changes') same h

  pub kept_turn : (program : ProgramTree) → program ≡ p → (who total' : ℕ) → 0 < who → who ≤ length codes → own + 1 ≤ limit → total' ≡ total + 1
      → (r : Entry) (d ahead' : Configuration) (changes' : List Changing) → StepMakes program c changes who (Ok r) d ahead' changes'
      → IsKept p codes start limit code d ahead' first scratch changes' most (own + 1) total'
  kept_turn program is who total' some known within booked r d ahead' changes' m =
      kept_turn_of who total' some known within booked r d ahead' changes' (step_here program is who (Ok r) d ahead' changes' m)

  pub goes_turn : (program : ProgramTree) → program ≡ p → (stopped more : Bool) (f : FloorView) → view_of p start c changes stopped more ≡ f
      → (who who' had has : ℕ) → who ≡ who' → has ≡ had + 1
      → (r : Entry) (d ahead' : Configuration) (changes' : List Changing) → StepMakes program c changes who (Ok r) d ahead' changes'
      → Goes p codes f who' (Did r) (view_of p start d changes' stopped more) had has
  goes_turn program is stopped more f view who who' had has same count r d ahead' changes' m =
      subst (λ (n : ℕ). Goes p codes f n (Did r) (view_of p start d changes' stopped more) had has) same (goes_turn_of stopped more f view who had has count r d ahead' changes' (step_here program is who (Ok r) d ahead' changes' m))

  pub kept_try : (program : ProgramTree) → program ≡ p → (m : Bool) (t : State) (r : Result Entry Refusal) (d ahead' : Configuration) (changes' : List Changing) → MoveMakes program m c changes t r d ahead' changes'
      → IsKept p codes start limit code d ahead' first scratch changes' most own total
  kept_try program is m t r d ahead' changes' h = kept_try_of m t r d ahead' changes' (move_here program is m t r d ahead' changes' h)

  pub gives_try : (program : ProgramTree) → program ≡ p → (stopped more : Bool) (f : FloorView) → view_of p start c changes stopped more ≡ f
      → (t u : State) → t ≡ u → (r : Result Entry Refusal) (d ahead' : Configuration) (changes' : List Changing) → MoveMakes program more c changes t r d ahead' changes'
      → MoveGives p codes f u r (view_of p start d changes' stopped more)
  gives_try program is stopped more f view t u same r d ahead' changes' h =
      subst (λ (x : State). MoveGives p codes f x r (view_of p start d changes' stopped more)) same (gives_try_of stopped more f view t r d ahead' changes' (move_here program is more t r d ahead' changes' h))

-- what a floor keeps before its first step
pub kept_first : (p : ProgramTree) (codes : List (List BlockTree)) (start : State) (limit : ℕ) (code : List (List BlockTree)) (c ahead : Configuration) (first scratch : Valuation) (changes : List Changing) (most total : ℕ)
    → code ≡ codes → c ≡ record { words = p.words; codes = codes; state = start; places = zeros codes } → ahead ≡ c
    → scratch.widths ≡ widths_of p.words → first.widths ≡ widths_of p.words → first.values ≡ start → AreValues first.widths first.values
    → most ≡ limit → most ≤ MOST_RUN_STEPS → ∥ GoTogether p codes ∥₁ → holds_at p.spec.pre start ≡ true → total ≡ 0 → changes ≡ []
    → IsKept p codes start limit code c ahead first scratch changes most 0 total
kept_first p codes start limit code c ahead first scratch changes most total code_is config ahead_is room widths values state most_is small law pre booked none =
    let here : IsState p.words start = subst (λ (s : State). AreValues (widths_of p.words) s) values (subst (λ (ws : List ℕ). AreValues ws first.values) widths state) in
    let base : IsKept p codes start limit code c ahead first scratch [] most 0 total = record {
      code_is = code_is;
      words_kept = ap (λ x. x.words) config;
      codes_are = ap (λ x. x.codes) config;
      ahead_is = ahead_is;
      first_widths = widths;
      first_is = values;
      scratch_widths = room;
      most_is = most_is;
      small = omega (arith, most_is, small);
      sized = ap (λ x. length x.places) config ∙ length-zeros codes;
      lawful = law;
      start_in_pre = pre;
      trace = here;
      leads = ap (λ x. x.places) config;
      words_are = ap (λ x. x.state) config;
      rely = tt;
      own_is = refl;
      within = omega arith;
      booked = booked;
      fit = All-nil (λ (x : Changing). All (IsValueOf (widths_of p.words)) x.values);
      exact = refl;
    } in
    subst (λ (cs : List Changing). IsKept p codes start limit code c ahead first scratch cs most 0 total) (sym none) base
