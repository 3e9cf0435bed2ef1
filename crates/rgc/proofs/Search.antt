-- What a search for proofs of conditions keeps is true.
use Rattle.std.proofs.Common.{◌≡◌, ◌⊎◌, ℕ, ◌+◌, ◌-◌, ◌<◌, ◌≤◌, zero, suc, take, drop, Some, Result, Ok, Err, List, [], ◌∷◌, ◌++◌, length, map, get_or, All, IfOk, rules, subst, sym, ap, ◌∙◌, ⊎_elim, inl, inr, refl, arith}
use Rattle.std.specs.Prelude.{IfErr, IfSome, Option, None, slice_index_or}
use Rattle.rg_words.specs.declared.limits.TheConstants.{MOST_VARIABLES}
use Rattle.rg_words.specs.declared.refusal.RefusalNumber.TheVariants.{UnknownCondition}
use Rattle.rg_words.specs.declared.refusal.SourceFile.TheVariants.{Derivation}
use Rattle.rg_words.specs.declared.refusal.Place.TheVariants.{Condition as the_condition}
use Rattle.rg_words.specs.Refusals.{no_memory, refused_in}
use Rattle.rg_clauses.specs.Conditions.{clauses_of_condition}
use Rattle.std.proofs.lemmas.Bool.{cases_lt}
use Rattle.std.proofs.lemmas.List.Elements.{All-append, All-cons}
use Rattle.rg_tree.specs.ConditionTrees.{ConditionTree}
use Rattle.rg_words.specs.declared.refusal.Refusal.{Refusal}
use Rattle.rg_tree.specs.declared.condition.Condition.{Condition}
use Rattle.rg_tree.specs.Conditions.{condition_tree, ConditionHolds}
use Rattle.rg_tree.specs.Programs.{nth}
use Rattle.rg_rules.proofs.Find.{nth-at}
use Rattle.std.proofs.lemmas.List.{length-map, map-id, take-map, drop-map}
use Rattle.rg_find.specs.Judged.{IsJudged, IsJudgeRefusal}
use Rattle.rg_find.specs.declared.judgement.Judged.{Judged}
use Rattle.rg_find.specs.declared.judgement.Judged.TheVariants.{Holds, Fails, GaveUp, TooLarge}
use Rattle.rgc.specs.declared.proofs_found.Unproved.{Unproved}
use Rattle.rgc.specs.declared.proofs_found.Sought.{Sought}
use Rattle.rg_pool.specs.ProofPieces.{ArePartProvedBy, AreProvedBy}
use Rattle.rgc.specs.Proofs.{IsUnproved, HoldFrom, AreReportedOrHold, AreUnproved, IsRange, in_range, outside, KeepLimit, IsFirstUnjudged, IsSearchRefusal, IsPartSearchRefusal}
use Rattle.rgc.specs.Inner.Search.{IsKept, IsHolding, Takes, IsJudgedAt, IsSoughtAt, IsUnsoughtAt, IsAnswerAt, AreSought}

-- what is kept of a condition is true of the condition of its number
pub kept_true : (cs : List ConditionTree) (number : ℕ) (c : ConditionTree) (judged : Judged) (old new : List Unproved) → nth cs number ≡ Some c → IsJudged c judged → (kept : IsKept number judged old new) → IsUnproved cs kept.one
kept_true cs number c judged old new is true_ kept = record {
  condition = c;
  is = subst (λ (k : ℕ). nth cs k ≡ Some c) (sym kept.number_is) is;
  judged = kept.true_of c true_;
}

-- what was reported stays true
pub taken : (cs : List ConditionTree) (number : ℕ) (c : ConditionTree) (judged : Judged) (old new : List Unproved) → nth cs number ≡ Some c → IsJudged c judged → All (IsUnproved cs) old → Takes number judged old new → All (IsUnproved cs) new
taken cs number c judged old new is true_ before took =
    ⊎_elim
    (λ same. subst (λ (l : List Unproved). All (IsUnproved cs) l) (sym same.1) before)
    (λ kept. subst (λ (l : List Unproved). All (IsUnproved cs) l) (sym kept.added)
    (All-append (IsUnproved cs) old (kept.one ∷ []) before
    (All-cons (IsUnproved cs) kept.one [] (kept_true cs number c judged old new is true_ kept) (search rules))))
    took

-- what is said of a condition, as it is written down, is true of the condition at its place; and where memory is refused for its text, it isn't judged
pub answer_there : (xs : List Condition) (place steps : ℕ) (x : Condition) (r : Result Sought Refusal) (j : Judged) → place < length xs → x ≡ get_or xs place x → IsJudged (condition_tree x) j → (clauses_of_condition (condition_tree x)).variables ≤ MOST_VARIABLES
    → IfOk r (λ w. w.judged ≡ j) → IfErr r (λ e. e ≡ no_memory) → IsAnswerAt (map condition_tree xs) (place + 1) steps r
answer_there xs place steps x (Ok w) j small at true_ within said none = λ c is.
    let same : condition_tree x ≡ c = cc (nth-at condition_tree xs place (place + 1) x refl small at, is) in (
      subst (λ (k : Judged). IsJudged c k) (sym said) (subst (λ (t : ConditionTree). IsJudged t j) same true_),
      subst (λ (t : ConditionTree). (clauses_of_condition t).variables ≤ MOST_VARIABLES) same within,
    )
answer_there xs place steps x (Err e) j small at true_ within said none =
    (condition_tree x, nth-at condition_tree xs place (place + 1) x refl small at, inl none)

-- a condition that isn't judged
pub unjudged_there : (xs : List Condition) (place steps : ℕ) (x : Condition) (e : Refusal) → place < length xs → x ≡ get_or xs place x → IsJudgeRefusal (condition_tree x) Derivation (place + 1) steps e → IsUnsoughtAt (map condition_tree xs) (place + 1) steps e
unjudged_there xs place steps x e small at why = (condition_tree x, nth-at condition_tree xs place (place + 1) x refl small at, why)

-- the first condition that isn't judged, where those before it keep the limit
pub first_unjudged : (cs : List ConditionTree) (first number steps : ℕ) (e : Refusal) → KeepLimit cs first number → IsUnsoughtAt cs number steps e → IsFirstUnjudged cs first steps e
first_unjudged cs first number steps e keep why = record { number = number; condition = why.0; is = why.1; refusal = why.2; before = keep }

same_number : (k n : ℕ) → n ≤ k → k < n + 1 → k ≡ n
same_number k n past high = omega (arith, past, high)

-- one more that keeps the limit
pub keep_more : (cs : List ConditionTree) (first number : ℕ) (w : Sought) → KeepLimit cs first number → IsSoughtAt cs number w → KeepLimit cs first (number + 1)
keep_more cs first number w keep said = λ k c low high is.
    ⊎_elim
    (λ less. keep k c low less is)
    (λ past. (said c (subst (λ (n : ℕ). nth cs n ≡ Some c) (same_number k number past high) is)).1)
    (cases_lt k number)

-- an element of a list
element_at : {X : Type 0} (xs : List X) (i : ℕ) → i < length xs → (x : X) × (x ≡ get_or xs i x)
element_at [] i small = absurd (omega (arith, small))
element_at (x ∷ xs) zero small = (x, refl)
element_at (x ∷ xs) (suc i) small = let rest = element_at xs i (omega (arith, small)) in (rest.0, rest.1)

-- what was reported stays true, where what is said of a condition is true of it
pub taken_there : (xs : List Condition) (place : ℕ) (judged : Judged) (old new : List Unproved) → place < length xs → IsJudgedAt (map condition_tree xs) (place + 1) judged → All (IsUnproved (map condition_tree xs)) old → Takes (place + 1) judged old new → All (IsUnproved (map condition_tree xs)) new
taken_there xs place judged old new small true_ before took =
    let e = element_at xs place small in
    let is : nth (map condition_tree xs) (place + 1) ≡ Some (condition_tree e.0) = nth-at condition_tree xs place (place + 1) e.0 refl small e.1 in
    taken (map condition_tree xs) (place + 1) (condition_tree e.0) judged old new is (true_ (condition_tree e.0) is) before took

-- a condition for which lines were found holds
holds_of : (c : ConditionTree) (judged : Judged) → IsHolding judged → IsJudged c judged → ConditionHolds c
holds_of c (Holds lines) found is = is.2
holds_of c (Fails first second) found is = absurd found
holds_of c GaveUp found is = absurd found
holds_of c TooLarge found is = absurd found

-- of one condition more nothing is reported, as it holds
one_holds : (cs : List ConditionTree) (first number : ℕ) (reported : List Unproved) → ((c : ConditionTree) → nth cs number ≡ Some c → ConditionHolds c) → AreReportedOrHold cs first number reported → AreReportedOrHold cs first (number + 1) reported
one_holds cs first number [] holds all = λ k c low high is.
    ⊎_elim
    (λ less. all k c low less is)
    (λ past. holds c (subst (λ (n : ℕ). nth cs n ≡ Some c) (same_number k number past high) is))
    (cases_lt k number)
one_holds cs first number (u ∷ reported) holds all =
    (record { low = all.0.low; high = omega (arith, all.0.high); before = all.0.before }, one_holds cs (u.number + 1) number reported holds all.1)

-- of one condition more something is reported
one_reported : (cs : List ConditionTree) (first number : ℕ) (reported : List Unproved) (one : Unproved) → first ≤ number → one.number ≡ number → AreReportedOrHold cs first number reported → AreReportedOrHold cs first (number + 1) (reported ++ one ∷ [])
one_reported cs first number [] one low is all = (
  record {
    low = omega (arith, low, is);
    high = omega (arith, is);
    before = subst (HoldFrom cs first) (sym is) all;
  },
  λ k c from to there. absurd (omega (arith, from, to, is)),
)
one_reported cs first number (u ∷ reported) one low is all =
    (record { low = all.0.low; high = omega (arith, all.0.high); before = all.0.before }, one_reported cs (u.number + 1) number reported one (omega (arith, all.0.high)) is all.1)

-- something is reported of the conditions so far and of one more, or they hold
pub taken_or_holds : (cs : List ConditionTree) (first number : ℕ) (judged : Judged) (old new : List Unproved) → first ≤ number → IsJudgedAt cs number judged → AreReportedOrHold cs first number old → Takes number judged old new → AreReportedOrHold cs first (number + 1) new
taken_or_holds cs first number judged old new low true_ all took =
    ⊎_elim
    (λ same. subst (λ (l : List Unproved). AreReportedOrHold cs first (number + 1) l) (sym same.1) (one_holds cs first number old (λ c is. holds_of c judged same.0 (true_ c is)) all))
    (λ kept. subst (λ (l : List Unproved). AreReportedOrHold cs first (number + 1) l) (sym kept.added) (one_reported cs first number old kept.one low kept.number_is all))
    took

-- how many conditions there are
pub count_same : (all : List Condition) (cs : List ConditionTree) (count : ℕ) → map condition_tree all ≡ cs → count ≡ length all → count ≡ length cs
count_same all cs count same is_count = is_count ∙ sym (length-map all condition_tree) ∙ ap length same

module _ (all items : List Condition) (cs : List ConditionTree) (first last count : ℕ) (same : map condition_tree all ≡ cs) (is_all : items ≡ all) (range : IsRange first last count) (is_count : count ≡ length all) where
  -- the part that was looked at is the part that was asked for
  part_same : map condition_tree (take (last - (first - 1)) (drop (first - 1) items)) ≡ in_range first last cs
  part_same =
      let many : last - (first - 1) ≡ last + 1 - first = omega (arith, range.low, range.order) in
      ap (λ (xs : List Condition). map condition_tree (take (last - (first - 1)) (drop (first - 1) xs))) is_all
      ∙ ap (λ (n : ℕ). map condition_tree (take n (drop (first - 1) all))) many
      ∙ sym (take-map condition_tree (last + 1 - first) (drop (first - 1) all))
      ∙ ap (take (last + 1 - first)) (sym (drop-map condition_tree (first - 1) all))
      ∙ ap (λ (xs : List ConditionTree). take (last + 1 - first) (drop (first - 1) xs)) same

  -- there are conditions of the numbers that were asked for
  pub range_same : IsRange first last (length cs)
  range_same = subst (IsRange first last) (count_same all cs count same is_count) range

  -- it was proved
  pub part_found : (pieces : List (List ℕ)) → ArePartProvedBy count (first - 1) (map condition_tree (take (last - (first - 1)) (drop (first - 1) items))) pieces → IsRange first last (length cs) × ArePartProvedBy (length cs) (first - 1) (in_range first last cs) pieces
  part_found pieces proved = (
    range_same,
    subst (λ (n : ℕ). ArePartProvedBy n (first - 1) (in_range first last cs) pieces) (count_same all cs count same is_count)
        (subst (λ (xs : List ConditionTree). ArePartProvedBy count (first - 1) xs pieces) part_same proved),
  )

-- a search of all conditions is refused
pub all_refused : (xs : List Condition) (cs : List ConditionTree) (steps : ℕ) (e : Refusal) → map condition_tree xs ≡ cs → ((e ≡ no_memory) ⊎ IsFirstUnjudged (map condition_tree xs) 1 steps e) → IsSearchRefusal cs steps e
all_refused xs cs steps e same (inl why) = inl why
all_refused xs cs steps e same (inr why) = inr (subst (λ (ds : List ConditionTree). IsFirstUnjudged ds 1 steps e) same why)

-- what it found proves them all
pub all_found : (xs : List Condition) (cs : List ConditionTree) (count : ℕ) (pieces : List (List ℕ)) → map condition_tree xs ≡ cs → count ≡ length xs → ArePartProvedBy count 0 (map condition_tree xs) pieces → AreProvedBy cs pieces
all_found xs cs count pieces same is_count proved =
    subst (λ (n : ℕ). ArePartProvedBy n 0 cs pieces) (count_same xs cs count same is_count) (subst (λ (ds : List ConditionTree). ArePartProvedBy count 0 ds pieces) same proved)

-- where nothing is reported, all hold
none_reported : (cs : List ConditionTree) (first end : ℕ) (found : List Unproved) → length found ≡ 0 → AreReportedOrHold cs first end found → HoldFrom cs first end
none_reported cs first end [] none all = all
none_reported cs first end (u ∷ found) none all = absurd (omega (arith, none))

-- then it may be said of the first that the search gave up
pub gave_up : (cs : List ConditionTree) (first end : ℕ) (found reported : List Unproved) → 0 < first → first < end → end ≤ length cs + 1 → length found ≡ 0 → AreReportedOrHold cs first end found → reported ≡ record { number = first; judged = GaveUp } ∷ [] → AreUnproved cs first end reported
gave_up cs first end found reported low order high none all is =
    let hold = none_reported cs first end found none all in
    let e = element_at cs (first - 1) (omega (arith, low, order, high)) in
    let there : nth cs first ≡ Some e.0 = ap (λ (ds : List ConditionTree). nth ds first) (sym (map-id cs)) ∙ nth-at (λ (c : ConditionTree). c) cs (first - 1) first e.0 (omega (arith, low)) (omega (arith, low, order, high)) e.1 in
    let one : Unproved = record { number = first; judged = GaveUp } in
    subst (AreUnproved cs first end) (sym is) (record {
      some = omega arith;
      all = (record { low = omega arith; high = order; before = λ k c from to at. absurd (omega (arith, from, to)) }, λ k c from to at. hold k c (omega (arith, from)) to at);
      are = All-cons (IsUnproved cs) one [] (record { condition = e.0; is = there; judged = tt }) (search rules);
    })

-- a range of which there is no condition
pub range_refused : (xs : List Condition) (cs : List ConditionTree) (first last steps count : ℕ) (e : Refusal) → map condition_tree xs ≡ cs → count ≡ length xs → (IsRange first last count → ⊥) → e ≡ refused_in UnknownCondition Derivation (the_condition (outside first last count)) → IsPartSearchRefusal cs first last steps e
range_refused xs cs first last steps count e same is_count none why =
    let size = count_same xs cs count same is_count in
    inr (inl (
      λ range. none (subst (IsRange first last) (sym size) range),
      subst (λ (n : ℕ). e ≡ refused_in UnknownCondition Derivation (the_condition (outside first last n))) size why,
    ))

-- a search of a range is refused
pub part_unsought : (xs : List Condition) (cs : List ConditionTree) (first last steps from : ℕ) (e : Refusal) → map condition_tree xs ≡ cs → from + 1 ≡ first → IsRange first last (length cs) → ((e ≡ no_memory) ⊎ IsFirstUnjudged (map condition_tree xs) (from + 1) steps e) → IsPartSearchRefusal cs first last steps e
part_unsought xs cs first last steps from e same is range (inl why) = inl why
part_unsought xs cs first last steps from e same is range (inr why) =
    inr (inr (range, subst (λ (n : ℕ). IsFirstUnjudged cs n steps e) is (subst (λ (ds : List ConditionTree). IsFirstUnjudged ds (from + 1) steps e) same why)))

-- what is known of the condition at a place
pub known_answer : (cs : List ConditionTree) (from place steps : ℕ) (known : List (Option (Result Sought Refusal))) (sought : Result Sought Refusal) → from ≤ place → place - from < length known → AreSought cs from steps known → slice_index_or known (place - from) None ≡ Some sought → IsAnswerAt cs (place + 1) steps sought
known_answer cs from place steps known sought order small are is =
    let number : from + (place - from) + 1 ≡ place + 1 = omega (arith, order) in
    let answer : IfSome (Some sought) (IsAnswerAt cs (from + (place - from) + 1) steps) = subst (λ (o : Option (Result Sought Refusal)). IfSome o (IsAnswerAt cs (from + (place - from) + 1) steps)) is (are (place - from) small) in
    subst (λ (n : ℕ). IsAnswerAt cs n steps sought) number answer
