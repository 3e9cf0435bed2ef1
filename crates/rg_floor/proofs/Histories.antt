-- Histories: one more change, one more record.
use Rattle.std.proofs.Common.{◌≡◌, ℕ, zero, suc, ◌+◌, ◌-◌, ◌<◌, ◌≤◌, ◌≢◌, ◌^◌, ◌==◌, true, false, List, [], ◌∷◌, ◌++◌, length, take, drop, get_or, drop-cons, set, refl, sym, ap, ◌∙◌, subst, arith, rules, append_assoc, length-append}
use Rattle.std.specs.Prelude.{if◌then◌else◌, All, ◌↔◌, Some, None, slice_get, slice_index}
use Rattle.std.proofs.Math.Seq.{set-append_seam, get_or-append_seam}
use Rattle.std.proofs.lemmas.List.Elements.{All-nil, All-cons}
use Rattle.std.proofs.Math.ListN.{drop_of_length-le}
use Rattle.std.proofs.lemmas.Option.{slice_get_past}
use Rattle.rg_words.specs.Layout.{Word}
use Rattle.rg_words.specs.States.{IsPair, AreValues}
use Rattle.rg_tree.specs.Statements.{ProgramTree}
use Rattle.rg_tree.specs.Traces.{State, Step, Inside, IsTraceOf, last_of}
use Rattle.rg_tree.specs.Programs.{OthersInside, nth}
use Rattle.rg_tree.specs.Moves.{given, IsValueOf}
use Rattle.rg_code.specs.Code.{BlockTree, PlacesGo, zeros}
use Rattle.rg_monitor.specs.Entry.{Entry, entry_of}
use Rattle.rg_floor.specs.Changes.{Changing, changed, rebuilt, state_after}
use Rattle.rg_floor.specs.History.{step_of, steps_of, own_steps, steps_by, IsRecordAt, RecordsLead}
use Rattle.rg_floor.specs.Inner.Counts.{made_by}

pub length-rebuilt : (p : ProgramTree) (n : ℕ) (s : State) (cs : List Changing) → length (rebuilt p n s cs) ≡ length cs
length-rebuilt p n s [] = refl
length-rebuilt p n s (c ∷ cs) = ap suc (length-rebuilt p (suc n) (given c.values s) cs)

pub rebuilt-push : (p : ProgramTree) (n k : ℕ) (s : State) (cs : List Changing) (c : Changing) → k ≡ length cs + n + 1
    → rebuilt p n s (cs ++ c ∷ []) ≡ rebuilt p n s cs ++ entry_of p k c.who c.line (state_after s cs) (given c.values (state_after s cs)) ∷ []
rebuilt-push p n k s [] c is =
    let e : suc n ≡ k = omega arith in
    (λ i. entry_of p (e i) c.who c.line s (given c.values s) ∷ [])
rebuilt-push p n k s (d ∷ cs) c is =
    ap (λ rs. entry_of p (suc n) d.who d.line s (given d.values s) ∷ rs) (rebuilt-push p (suc n) k (given d.values s) cs c (omega arith))

pub state_after-push : (s : State) (cs : List Changing) (c : Changing) → state_after s (cs ++ c ∷ []) ≡ given c.values (state_after s cs)
state_after-push s [] c = refl
state_after-push s (d ∷ cs) c = state_after-push (given d.values s) cs c

-- the state after the changes is the last of their records
pub last_of-rebuilt : (p : ProgramTree) (n : ℕ) (s : State) (cs : List Changing) → last_of s (steps_of (rebuilt p n s cs)) ≡ state_after s cs
last_of-rebuilt p n s [] = refl
last_of-rebuilt p n s (c ∷ cs) = last_of-rebuilt p (suc n) (given c.values s) cs

-- the changed words, from the seam on, lead from one state to the other
given-changed_from : (us s t : List ℕ) (k : ℕ) → k ≡ length us → length s ≡ length t → given (changed k s t) (us ++ s) ≡ us ++ t
given-changed_from us [] [] k is same = refl
given-changed_from us [] (y ∷ ys) k is same = absurd (omega arith)
given-changed_from us (x ∷ xs) [] k is same = absurd (omega arith)
given-changed_from us (x ∷ xs) (y ∷ ys) k is same =
    let long : length (us ++ x ∷ []) ≡ length us + 1 = length-append us (x ∷ []) in
    let long' : length (us ++ y ∷ []) ≡ length us + 1 = length-append us (y ∷ []) in
    let rest : (z : ℕ) → length (us ++ z ∷ []) ≡ length us + 1 → given (changed (suc k) xs ys) (us ++ z ∷ xs) ≡ us ++ z ∷ ys =
    λ z l. ap (λ w. given (changed (suc k) xs ys) w) (sym (append_assoc us (z ∷ []) xs)) ∙ given-changed_from (us ++ z ∷ []) xs ys (suc k) (omega arith) (omega arith) ∙ append_assoc us (z ∷ []) ys in
    elim (x == y) as (λ b. (x == y) ≡ b → given (if b then changed (suc k) xs ys else (record { word = k; value = y }) ∷ changed (suc k) xs ys) (us ++ x ∷ xs) ≡ us ++ y ∷ ys) [
      | true ↦ λ e. let same_head : x ≡ y = search (rules, e) in rest x long ∙ ap (λ z. us ++ z ∷ ys) same_head
      | false ↦ λ e. ap (λ w. given (changed (suc k) xs ys) w) (ap (λ j. set (us ++ x ∷ xs) j y) is ∙ set-append_seam us x xs y) ∙ rest y long'
    ] refl

pub given-changed : (s t : List ℕ) → length s ≡ length t → given (changed 0 s t) s ≡ t
given-changed s t same = given-changed_from [] s t 0 refl same

-- each changed word gets one of its values
changed-fits_from : (us ws s t : List ℕ) (k : ℕ) → k ≡ length us → AreValues ws t → All (IsValueOf (us ++ ws)) (changed k s t)
changed-fits_from us ws [] t k is h = All-nil (IsValueOf (us ++ ws))
changed-fits_from us ws (x ∷ xs) [] k is h = All-nil (IsValueOf (us ++ ws))
changed-fits_from us [] (x ∷ xs) (y ∷ ys) k is h = absurd h
changed-fits_from us (w ∷ ws) (x ∷ xs) (y ∷ ys) k is h =
    let long : length (us ++ w ∷ []) ≡ length us + 1 = length-append us (w ∷ []) in
    let whole : length (us ++ w ∷ ws) ≡ length us + length (w ∷ ws) = length-append us (w ∷ ws) in
    let rest = subst (λ (vs : List ℕ). All (IsValueOf vs) (changed (suc k) xs ys)) (append_assoc us (w ∷ []) ws) (changed-fits_from (us ++ w ∷ []) ws xs ys (suc k) (omega arith) h.1) in
    let here : slice_index (us ++ w ∷ ws) k ≡ w = ap (slice_index (us ++ w ∷ ws)) is ∙ get_or-append_seam us w ws 0 in
    let fits : IsValueOf (us ++ w ∷ ws) (record { word = k; value = y }) = record { word = omega arith; small = subst (λ n. y < 2 ^ n) (sym here) h.0 } in
    elim (x == y) as (λ b. All (IsValueOf (us ++ w ∷ ws)) (if b then changed (suc k) xs ys else (record { word = k; value = y }) ∷ changed (suc k) xs ys)) [
      | true ↦ rest
      | false ↦ All-cons (IsValueOf (us ++ w ∷ ws)) (record { word = k; value = y }) (changed (suc k) xs ys) fits rest
    ]

pub changed-fits : (ws s t : List ℕ) → AreValues ws t → All (IsValueOf ws) (changed 0 s t)
changed-fits ws s t h = changed-fits_from [] ws s t 0 refl h

pub steps_of-push : (rs : List Entry) (r : Entry) → steps_of (rs ++ r ∷ []) ≡ steps_of rs ++ step_of r ∷ []
steps_of-push [] r = refl
steps_of-push (x ∷ rs) r = ap (λ xs. step_of x ∷ xs) (steps_of-push rs r)

pub IsTraceOf-push : (words : List Word) (n : ℕ) (s : State) (xs : List Step) (x : Step) → IsTraceOf words n s xs → x.who ≤ n → IsPair words (last_of s xs) x.after → IsTraceOf words n s (xs ++ x ∷ [])
IsTraceOf-push words n s [] x h less pair = (less, pair, pair.second)
IsTraceOf-push words n s (y ∷ xs) x h less pair = (h.0, h.1, IsTraceOf-push words n y.after xs x h.2 less pair)

pub OthersInside-push : (R : State → State → _) (s : State) (xs : List Step) (x : Step) → OthersInside R s xs → (x.who ≡ 0 → Inside R (last_of s xs) x.after) → OthersInside R s (xs ++ x ∷ [])
OthersInside-push R s [] x h new = (new, tt)
OthersInside-push R s (y ∷ xs) x h new = (h.0, OthersInside-push R y.after xs x h.1 new)

pub own_steps-push : (rs : List Entry) (r : Entry) → own_steps (rs ++ r ∷ []) ≡ own_steps rs + (if r.who == 0 then 0 else 1)
own_steps-push [] r = omega arith
own_steps-push (x ∷ rs) r = omega (arith, own_steps-push rs r)

pub RecordsLead-push : (p : ProgramTree) (codes : List (List BlockTree)) (n k : ℕ) (ks mid to : List ℕ) (s : State) (rs : List Entry) (r : Entry)
    → RecordsLead p codes n ks s rs mid → k ≡ length rs + n → IsRecordAt p codes k mid (last_of s (steps_of rs)) r → PlacesGo 1 codes mid to (last_of s (steps_of rs)) (step_of r) → RecordsLead p codes n ks s (rs ++ r ∷ []) to
RecordsLead-push p codes n k ks mid to s [] r h is fits goes =
    let e : k ≡ n = omega arith in
    let P : List ℕ → ℕ → Type 0 = λ xs m. IsRecordAt p codes m xs s r in
    let Q : List ℕ → Type 0 = λ xs. PlacesGo 1 codes xs to s (step_of r) in
    (to, subst (P ks) e (subst (λ (xs : List ℕ). P xs k) h fits), subst Q h goes, refl)
RecordsLead-push p codes n k ks mid to s (x ∷ rs) r h is fits goes =
    (h.0, h.1, h.2, RecordsLead-push p codes (suc n) k h.0 mid to x.after rs r h.3 (omega arith) fits goes)

-- a step of the code has as many places as there are parts, before and after it
pub goes_sized : (i : ℕ) (cs : List (List BlockTree)) (ks ks' : List ℕ) (s : State) (x : Step) → PlacesGo i cs ks ks' s x → (length ks ≡ length cs) × (length ks' ≡ length cs)
goes_sized i [] [] [] s x g = (refl, refl)
goes_sized i (c ∷ cs) (k ∷ ks) (k' ∷ ks') s x g = let r = goes_sized (suc i) cs ks ks' s x g.2 in (ap suc r.0, ap suc r.1)
goes_sized i _ _ _ s x g = absurd g

-- a step of the environment leaves the places
pub stays : (i : ℕ) (cs : List (List BlockTree)) (ks : List ℕ) (s : State) (x : Step) → 0 < i → x.who ≡ 0 → length ks ≡ length cs → PlacesGo i cs ks ks s x
stays i [] [] s x some who size = tt
stays i (c ∷ cs) (k ∷ ks) s x some who size = (λ e. absurd (omega (arith, some, who, e)), λ e. refl, stays (suc i) cs ks s x (omega arith) who (omega (arith, size)))
stays i [] (k ∷ ks) s x some who size = absurd (omega (arith, size))
stays i (c ∷ cs) [] s x some who size = absurd (omega (arith, size))

pub length-zeros : (cs : List (List BlockTree)) → length (zeros cs) ≡ length cs
length-zeros [] = refl
length-zeros (c ∷ cs) = ap suc (length-zeros cs)

-- as many records as changes are by one
pub made-rebuilt : (p : ProgramTree) (n who : ℕ) (s : State) (cs : List Changing) → made_by who cs ≡ steps_by who (rebuilt p n s cs)
made-rebuilt p n who s [] = refl
made-rebuilt p n who s (c ∷ cs) = ap (λ m. (if c.who == who then 1 else 0) + m) (made-rebuilt p (suc n) who (given c.values s) cs)

-- one of the records
record_in : (p : ProgramTree) (n k : ℕ) (s : State) (cs : List Changing) (j : ℕ) (c : Changing) → k ≡ n + j + 1 → j < length cs → c ≡ get_or cs j c
    → slice_get (rebuilt p n s cs) j ≡ Some (entry_of p k c.who c.line (state_after s (take j cs)) (given c.values (state_after s (take j cs))))
record_in p n k s [] j c is less at = absurd (omega arith)
record_in p n k s (d ∷ cs) zero c is less at =
    let e : suc n ≡ k = omega arith in
    let same : d ≡ c = sym at in
    (λ i. Some (entry_of p (e i) (same i).who (same i).line s (given (same i).values s)))
record_in p n k s (d ∷ cs) (suc j) c is less at = record_in p (suc n) k (given d.values s) cs j c (omega (arith, is)) (omega arith) at

nth_at : {A : Type 0} → (xs : List A) (n j : ℕ) → n ≡ suc j → nth xs n ≡ slice_get xs j
nth_at xs n j e = ap (nth xs) e

pub record_at : (p : ProgramTree) (s before after : State) (cs : List Changing) (number : ℕ) (c : Changing) → number ≢ 0 → number ≤ length cs → c ≡ get_or cs (number - 1) c
    → before ≡ state_after s (take (number - 1) cs) → after ≡ given c.values before → nth (rebuilt p 0 s cs) number ≡ Some (entry_of p number c.who c.line before after)
record_at p s before after cs number c some most at first second =
    let e : number ≡ suc (number - 1) = omega (arith, some) in
    let k : number ≡ 0 + (number - 1) + 1 = omega (arith, some) in
    nth_at (rebuilt p 0 s cs) number (number - 1) e ∙ record_in p 0 number s cs (number - 1) c k (omega (arith, some, most)) at
    ∙ (λ i. Some (entry_of p number c.who c.line (sym first i) ((ap (given c.values) (sym first) ∙ sym second) i)))

pub no_record : (p : ProgramTree) (s : State) (cs : List Changing) (number : ℕ) → length cs < number → None ≡ nth (rebuilt p 0 s cs) number
no_record p s cs number past =
    let e : number ≡ suc (number - 1) = omega (arith, past) in
    sym (nth_at (rebuilt p 0 s cs) number (number - 1) e ∙ slice_get_past (rebuilt p 0 s cs) (number - 1) (omega (arith, past, length-rebuilt p 0 s cs)))

-- the records after so many are those of the changes after so many
drop-rebuilt : (p : ProgramTree) (n k m : ℕ) (s : State) (cs : List Changing) → m ≡ k + n → drop k (rebuilt p n s cs) ≡ rebuilt p m (state_after s (take k cs)) (drop k cs)
drop-rebuilt p n zero m s cs e = let same : n ≡ m = omega (arith, e) in ap (λ j. rebuilt p j s cs) same
drop-rebuilt p n (suc k) m s [] e = refl
drop-rebuilt p n (suc k) m s (c ∷ cs) e = drop-rebuilt p (suc n) k m (given c.values s) cs (omega (arith, e))

pub records_after : (p : ProgramTree) (s before : State) (cs : List Changing) (k : ℕ) → before ≡ state_after s (take k cs) → rebuilt p k before (drop k cs) ≡ drop k (rebuilt p 0 s cs)
records_after p s before cs k at = ap (λ t. rebuilt p k t (drop k cs)) at ∙ sym (drop-rebuilt p 0 k k s cs (omega arith))

pub none_after : (p : ProgramTree) (s : State) (cs : List Changing) (k : ℕ) → length cs ≤ k → drop k (rebuilt p 0 s cs) ≡ []
none_after p s cs k past = drop_of_length-le (rebuilt p 0 s cs) (omega (arith, past, length-rebuilt p 0 s cs))

-- one more record was made, and the rest is to be made
pub one_made : (p : ProgramTree) (records records' whole : List Entry) (changes : List Changing) (i : ℕ) (x : Entry) (c : Changing) (s t : State)
    → i < length changes → c ≡ get_or changes i c → x ≡ entry_of p (i + 1) c.who c.line s t → t ≡ given c.values s → records' ≡ records ++ x ∷ []
    → records ++ rebuilt p i s (drop i changes) ≡ whole → records' ++ rebuilt p (i + 1) t (drop (i + 1) changes) ≡ whole
one_made p records records' whole changes i x c s t in_changes at_c same to pushed h =
    let n : i + 1 ≡ suc i = omega arith in
    let left : List Entry = rebuilt p (suc i) (given c.values s) (drop (suc i) changes) in
    let back : rebuilt p i s (drop i changes) ≡ entry_of p (suc i) c.who c.line s (given c.values s) ∷ left =
    ap (rebuilt p i s) (drop-cons changes i c in_changes ∙ ap (λ y. y ∷ drop (suc i) changes) (sym at_c)) in
    let head : x ≡ entry_of p (suc i) c.who c.line s (given c.values s) = same ∙ (λ j. entry_of p (n j) c.who c.line s (to j)) in
    let here : records' ++ left ≡ whole =
    ap (λ l. l ++ left) pushed ∙ append_assoc records (x ∷ []) left ∙ ap (λ y. records ++ y ∷ left) head ∙ ap (λ l. records ++ l) (sym back) ∙ h in
    let P : ℕ → State → Type 0 = λ m u. records' ++ rebuilt p m u (drop m changes) ≡ whole in
    subst (λ (u : State). P (i + 1) u) (sym to) (subst (λ (m : ℕ). P m (given c.values s)) (sym n) here)

rest_of : {A : Type 0} → List A → List A
rest_of [] = []
rest_of (x ∷ xs) = xs

-- where one more printed record is that of its change, what is left decides as before
pub equal_on : (p : ProgramTree) (printed : List Entry) (changes : List Changing) (i : ℕ) (x : Entry) (c : Changing) (s t : State) (W : Type 0)
    → i < length printed → i < length changes → x ≡ get_or printed i x → c ≡ get_or changes i c → x ≡ entry_of p (i + 1) c.who c.line s t → t ≡ given c.values s
    → (drop i printed ≡ rebuilt p i s (drop i changes)) ↔ W → (drop (i + 1) printed ≡ rebuilt p (i + 1) t (drop (i + 1) changes)) ↔ W
unfolding rest_of
equal_on p printed changes i x c s t W in_printed in_changes at_x at_c same to h =
    let n : i + 1 ≡ suc i = omega arith in
    let front : drop i printed ≡ x ∷ drop (suc i) printed = drop-cons printed i x in_printed ∙ ap (λ y. y ∷ drop (suc i) printed) (sym at_x) in
    let back : rebuilt p i s (drop i changes) ≡ entry_of p (suc i) c.who c.line s (given c.values s) ∷ rebuilt p (suc i) (given c.values s) (drop (suc i) changes) =
    ap (rebuilt p i s) (drop-cons changes i c in_changes ∙ ap (λ y. y ∷ drop (suc i) changes) (sym at_c)) in
    let head : x ≡ entry_of p (suc i) c.who c.line s (given c.values s) = same ∙ (λ j. entry_of p (n j) c.who c.line s (to j)) in
    let there : (drop (suc i) printed ≡ rebuilt p (suc i) (given c.values s) (drop (suc i) changes)) → W =
    λ e. h.0 (front ∙ (λ j. head j ∷ e j) ∙ sym back) in
    let here : W → (drop (suc i) printed ≡ rebuilt p (suc i) (given c.values s) (drop (suc i) changes)) =
    λ w. ap rest_of (sym front ∙ h.1 w ∙ back) in
    let P : ℕ → State → Type 0 = λ m u. (drop m printed ≡ rebuilt p m u (drop m changes)) ↔ W in
    subst (λ (u : State). P (i + 1) u) (sym to) (subst (λ (m : ℕ). P m (given c.values s)) (sym n) (there, here))
