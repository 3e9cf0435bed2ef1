-- A line that meets all demands fits, and one that fits meets all demands.
use Rattle.std.proofs.Common.{◌≡◌, ℕ, zero, suc, ◌+◌, ◌<◌, ◌≤◌, List, [], ◌∷◌, length, map, Option, Some, None, refl, ap, subst, ◌∙◌, sym, ⊎_elim, arith}
use Rattle.rg_words.specs.declared.refusal.RefusalNumber.{RefusalNumber}
use Rattle.rg_words.specs.declared.refusal.RefusalNumber.TheVariants.{LineNumber, NotEarlier, RuleDoesNotFit, WrongStatement, FormulaDiffers}
use Rattle.rg_tree.specs.Trees.{Proposition}
use Rattle.rg_tree.specs.Statements.{Statement, skip, assign, await, sequence, branch, loop, Items, one, more, Specification, PartTree}
use Rattle.rg_tree.specs.Numbering.{statements, statements_of_parts}
use Rattle.rg_tree.specs.Programs.{nth}
use Rattle.rg_tree.specs.declared.line.Rule.{Rule}
use Rattle.rg_tree.specs.declared.line.Rule.TheVariants.{Basic, Atomic, Seq, If, Loop, Conseq}
use Rattle.rg_rules.specs.Derivations.{IsPremise, ItemsFit, ChoiceFits, LoopFits, ConseqFits, RuleFits, LineFits}
use Rattle.rg_rules.specs.Faults.{count_items, premise_count, item_numbers, premise_numbers, AreEarlier, found_first, lines_at, AreChained, AreChoices, AreTurn, TreesFit, Asks, IsStatementAnswer, IsLineAnswer, PartsDerived, AreFaultlessBefore, Derives, DerivationsHaveNoFault}
use Rattle.std.specs.Prelude.{slice_get}
use Rattle.std.proofs.Common.{length-append}
use Rattle.rg_tree.proofs.Stands.{Stands}
use Rattle.rg_tree.specs.Lines.{LineTree}
use Rattle.rg_rules.proofs.Places.{closed_parts}
use Rattle.rg_rules.proofs.Fitting.{nth_within, numbered_items, chained_split, chained_join}

-- from the demands to the rule

asks_met : (fault : RefusalNumber) (demand rest : Type 0) → Asks fault demand rest None → demand × rest
asks_met fault demand rest h = ⊎_elim (λ l. l) (λ r. absurd (no_fault r.1)) h
  where
    no_fault : None ≡ Some fault → ⊥
    no_fault e = cc e

none_left : (is : List ℕ) → Some 0 ≡ Some (length is) → is ≡ []
none_left [] h = refl
none_left (i ∷ is) h = cc h

module _ (lines : List LineTree) (k : ℕ) (le : k ≤ length lines + 1) where
  -- the line of an earlier number
  line_of : (i : ℕ) → 1 ≤ i → i < k → (x : LineTree) × (nth lines i ≡ Some x)
  line_of i some less = nth_within lines i some (omega arith)

  premise : (i n : ℕ) (spec : Specification) (x : LineTree) → i < k → nth lines i ≡ Some x → x.number ≡ n → x.spec ≡ spec → IsPremise lines k i n spec
  premise i n spec x less found number formulas = record { line = x; earlier = less; found = found; same_number = number; same_spec = formulas }

  items_fit : (n : ℕ) (spec : Specification) (items : Items) (is : List ℕ) → AreEarlier k is → map (λ l. l.number) (lines_at lines is) ≡ item_numbers n items → AreChained spec (map (λ l. l.spec) (lines_at lines is)) → ItemsFit lines k n spec items is
  items_fit n spec (one s) [] early numbers trees = absurd trees
  items_fit n spec (more s items) [] early numbers trees = absurd trees
  items_fit n spec (one s) (i ∷ []) early numbers trees =
      let x = line_of i early.0 early.1 in
      let numbers' = rw x.1 at numbers in
      let trees' = rw x.1 at trees in
      premise i n spec x.0 early.1 x.1 (cc numbers') trees'
  items_fit n spec (one s) (i ∷ j ∷ is) early numbers trees =
      let x = line_of i early.0 early.1 in
      let y = line_of j early.2.0 early.2.1 in
      let numbers' = rw (x.1, y.1) at numbers in
      absurd (omega (arith, ap length numbers'))
  items_fit n spec (more s items) (i ∷ []) early numbers trees =
      let x = line_of i early.0 early.1 in
      let numbers' = rw x.1 at numbers in
      let some = numbered_items (n + length (statements s)) items in
      absurd (omega (arith, ap length numbers'))
  items_fit n spec (more s items) (i ∷ j ∷ is) early numbers trees =
      let x = line_of i early.0 early.1 in
      let y = line_of j early.2.0 early.2.1 in
      let numbers' = rw x.1 at numbers in
      let some : 1 ≤ length (map (λ (l : LineTree). l.spec) (found_first (nth lines j) (lines_at lines is))) = rw y.1 (omega arith) in
      let trees' = chained_split spec x.0.spec _ some (rw x.1 at trees) in
      (x.0.spec.post, premise i n (record spec { post = x.0.spec.post }) x.0 early.1 x.1 (cc numbers') trees'.0, items_fit (n + length (statements s)) (record spec { pre = x.0.spec.post }) items (j ∷ is) early.2 (cc numbers') trees'.1)

  choice_fits : (n : ℕ) (spec : Specification) (b : Proposition) (s : Statement) (is : List ℕ) → Some 2 ≡ Some (length is) → AreEarlier k is → map (λ l. l.number) (lines_at lines is) ≡ (n + 1) ∷ (n + 1 + length (statements s)) ∷ [] → AreChoices spec b (map (λ l. l.spec) (lines_at lines is)) → ChoiceFits lines k n spec b s is
  choice_fits n spec b s [] count early numbers trees = cc count
  choice_fits n spec b s (i ∷ []) count early numbers trees = cc count
  choice_fits n spec b s (i ∷ j ∷ []) count early numbers trees =
      let x = line_of i early.0 early.1 in
      let y = line_of j early.2.0 early.2.1 in
      let numbers' = rw (x.1, y.1) at numbers in
      let trees' = rw (x.1, y.1) at trees in
      (premise i (n + 1) _ x.0 early.1 x.1 (cc numbers') trees'.0, premise j (n + 1 + length (statements s)) _ y.0 early.2.1 y.1 (cc numbers') trees'.1)
  choice_fits n spec b s (i ∷ j ∷ h ∷ is) count early numbers trees = cc count

  turn_fits : (n : ℕ) (spec : Specification) (b : Proposition) (is : List ℕ) → Some 1 ≡ Some (length is) → AreEarlier k is → map (λ l. l.number) (lines_at lines is) ≡ (n + 1) ∷ [] → AreTurn spec b (map (λ l. l.spec) (lines_at lines is)) → LoopFits lines k n spec b is
  turn_fits n spec b [] count early numbers trees = cc count
  turn_fits n spec b (i ∷ []) count early numbers trees =
      let x = line_of i early.0 early.1 in
      let numbers' = rw x.1 at numbers in
      premise i (n + 1) _ x.0 early.1 x.1 (cc numbers') (rw x.1 at trees)
  turn_fits n spec b (i ∷ j ∷ is) count early numbers trees = cc count

  conseq_fits : (n : ℕ) (is : List ℕ) → Some 1 ≡ Some (length is) → AreEarlier k is → map (λ l. l.number) (lines_at lines is) ≡ n ∷ [] → ConseqFits lines k n is
  conseq_fits n [] count early numbers = cc count
  conseq_fits n (i ∷ []) count early numbers =
      let x = line_of i early.0 early.1 in
      let numbers' = rw x.1 at numbers in
      (x.0.spec, premise i n x.0.spec x.0 early.1 x.1 (cc numbers') refl)
  conseq_fits n (i ∷ j ∷ is) count early numbers = cc count

  rule_fits : (n : ℕ) (spec : Specification) (is : List ℕ) (rule : Rule) (s : Statement) → premise_count rule s ≡ Some (length is) → AreEarlier k is → map (λ l. l.number) (lines_at lines is) ≡ premise_numbers n rule s → TreesFit spec rule s (map (λ l. l.spec) (lines_at lines is)) → RuleFits lines k n spec is rule s
  rule_fits n spec is Basic (skip row) count early numbers trees = none_left is count
  rule_fits n spec is Basic (assign row a) count early numbers trees = none_left is count
  rule_fits n spec is Atomic (await row b act) count early numbers trees = none_left is count
  rule_fits n spec is Seq (sequence row s items) count early numbers trees = items_fit (n + 1) spec (more s items) is early numbers trees
  rule_fits n spec is If (branch row b s t) count early numbers trees = choice_fits n spec b s is count early numbers trees
  rule_fits n spec is Loop (loop row b s) count early numbers trees = turn_fits n spec b is count early numbers trees
  rule_fits n spec is Conseq s count early numbers trees = conseq_fits n is count early numbers
  rule_fits n spec is _ _ count early numbers trees = cc count

  statement_fits : (all : List Statement) (line : LineTree) (o : Option Statement) → nth all line.number ≡ o → IsStatementAnswer lines k line o None → LineFits all lines k line
  statement_fits all line None found h = cc h
  statement_fits all line (Some s) found h =
      let count = asks_met RuleDoesNotFit _ _ h in
      let early = asks_met NotEarlier _ _ count.1 in
      let numbers = asks_met WrongStatement _ _ early.1 in
      let trees = asks_met FormulaDiffers _ _ numbers.1 in
      (s, found, rule_fits line.number line.spec line.premises line.rule s count.0 early.0 numbers.0 trees.0)

  -- a line that meets all demands fits
  pub line_fits : (all : List Statement) (line : LineTree) → IsLineAnswer all lines k line None → (line.own_number ≡ k) × LineFits all lines k line
  line_fits all line h =
      let own = asks_met LineNumber _ _ h in
      (own.0, statement_fits all line (nth all line.number) refl own.1)

-- from the rule to the demands

asks_rest : (fault : RefusalNumber) (demand rest : Type 0) (answer : Option RefusalNumber) → demand → Asks fault demand rest answer → rest
asks_rest fault demand rest answer d h = ⊎_elim (λ l. l.1) (λ r. absurd (r.0 d)) h

some_number : {X : Type 0} (xs : List X) (i : ℕ) (x : X) → nth xs i ≡ Some x → 1 ≤ i
some_number xs zero x h = cc h
some_number xs (suc i) x h = omega arith

-- what the demands say of the premises
record Meets (lines : List LineTree) (k : ℕ) (is : List ℕ) (numbers : List ℕ) : Type 0 where
  early : AreEarlier k is
  numbered : map (λ l. l.number) (lines_at lines is) ≡ numbers

module _ (lines : List LineTree) (k : ℕ) where
  found_at : (i n : ℕ) (spec : Specification) (is : List ℕ) (p : IsPremise lines k i n spec) → lines_at lines (i ∷ is) ≡ p.line ∷ lines_at lines is
  found_at i n spec is p = rw p.found

  meets_none : Meets lines k [] []
  meets_none = record { early = tt; numbered = refl }

  meets_more : (i n : ℕ) (spec : Specification) (is ns : List ℕ) → IsPremise lines k i n spec → Meets lines k is ns → Meets lines k (i ∷ is) (n ∷ ns)
  meets_more i n spec is ns p m = record {
    early = (some_number lines i p.line p.found, p.earlier, m.early);
    numbered = ap (map (λ l. l.number)) (found_at i n spec is p) ∙ ap (λ j. j ∷ map (λ l. l.number) (lines_at lines is)) p.same_number ∙ ap (λ js. n ∷ js) m.numbered;
  }

  items_meet : (n : ℕ) (spec : Specification) (items : Items) (is : List ℕ) → ItemsFit lines k n spec items is → (count_items items ≡ length is) × Meets lines k is (item_numbers n items)
  items_meet n spec (one s) (i ∷ []) h = (refl, meets_more i n spec [] [] h meets_none)
  items_meet n spec (more s items) (i ∷ is) h =
      let rest = items_meet (n + length (statements s)) (record spec { pre = h.0 }) items is h.2 in
      (ap suc rest.0, meets_more i n (record spec { post = h.0 }) is (item_numbers (n + length (statements s)) items) h.1 rest.1)
  items_meet n spec (one s) [] h = absurd h
  items_meet n spec (one s) (i ∷ j ∷ is) h = absurd h
  items_meet n spec (more s items) [] h = absurd h

  spec_at : (i n : ℕ) (spec : Specification) (is : List ℕ) (p : IsPremise lines k i n spec) → map (λ l. l.spec) (lines_at lines (i ∷ is)) ≡ spec ∷ map (λ l. l.spec) (lines_at lines is)
  spec_at i n spec is p =
      ap (map (λ l. l.spec)) (found_at i n spec is p) ∙ ap (λ x. x ∷ map (λ l. l.spec) (lines_at lines is)) p.same_spec

  items_chained : (n : ℕ) (spec : Specification) (items : Items) (is : List ℕ) → ItemsFit lines k n spec items is → AreChained spec (map (λ l. l.spec) (lines_at lines is))
  items_chained n spec (one s) (i ∷ []) h = rw (spec_at i n spec [] h) refl
  items_chained n spec (more s items) (i ∷ is) h =
      let mid = record spec { post = h.0 } in
      let rest = items_chained (n + length (statements s)) (record spec { pre = h.0 }) items is h.2 in
      rw (spec_at i n mid is h.1) (chained_join spec mid _ refl rest)
  items_chained n spec (one s) [] h = absurd h
  items_chained n spec (one s) (i ∷ j ∷ is) h = absurd h
  items_chained n spec (more s items) [] h = absurd h

  -- what a rule asks, demand by demand
  abbrev AllMet : ℕ → Specification → List ℕ → Rule → Statement → Type 0
  AllMet n spec is rule s =
      (premise_count rule s ≡ Some (length is)) × Meets lines k is (premise_numbers n rule s) × TreesFit spec rule s (map (λ l. l.spec) (lines_at lines is))

  none_met : (n : ℕ) (spec : Specification) (is : List ℕ) (rule : Rule) (s : Statement) → premise_count rule s ≡ Some 0 → premise_numbers n rule s ≡ [] → TreesFit spec rule s [] → is ≡ [] → AllMet n spec is rule s
  none_met n spec is rule s count numbers trees e =
      subst (λ js. AllMet n spec js rule s) (sym e) (count, subst (λ ns. Meets lines k [] ns) (sym numbers) meets_none, trees)

  items_met : (n : ℕ) (spec : Specification) (row : ℕ) (s : Statement) (items : Items) (is : List ℕ) → ItemsFit lines k (n + 1) spec (more s items) is → AllMet n spec is Seq (sequence row s items)
  items_met n spec row s items is h =
      let m = items_meet (n + 1) spec (more s items) is h in
      (ap Some m.0, m.1, items_chained (n + 1) spec (more s items) is h)

  choice_met : (n : ℕ) (spec : Specification) (row : ℕ) (b : Proposition) (s t : Statement) (is : List ℕ) → ChoiceFits lines k n spec b s is → AllMet n spec is If (branch row b s t)
  choice_met n spec row b s t [] h = absurd h
  choice_met n spec row b s t (i ∷ []) h = absurd h
  choice_met n spec row b s t (i ∷ j ∷ []) h =
      let second = meets_more j (n + 1 + length (statements s)) _ [] [] h.1 meets_none in
      (refl, meets_more i (n + 1) _ (j ∷ []) _ h.0 second, rw (spec_at i (n + 1) _ (j ∷ []) h.0) (rw (spec_at j _ _ [] h.1) (refl, refl)))
  choice_met n spec row b s t (i ∷ j ∷ l ∷ is) h = absurd h

  turn_met : (n : ℕ) (spec : Specification) (row : ℕ) (b : Proposition) (s : Statement) (is : List ℕ) → LoopFits lines k n spec b is → AllMet n spec is Loop (loop row b s)
  turn_met n spec row b s [] h = absurd h
  turn_met n spec row b s (i ∷ []) h = (refl, meets_more i (n + 1) _ [] [] h meets_none, rw (spec_at i (n + 1) _ [] h) refl)
  turn_met n spec row b s (i ∷ j ∷ is) h = absurd h

  conseq_met : (n : ℕ) (spec : Specification) (s : Statement) (is : List ℕ) → ConseqFits lines k n is → AllMet n spec is Conseq s
  conseq_met n spec s [] h = absurd h
  conseq_met n spec s (i ∷ []) h = (refl, meets_more i n h.0 [] [] h.1 meets_none, tt)
  conseq_met n spec s (i ∷ j ∷ is) h = absurd h

  rule_met : (n : ℕ) (spec : Specification) (is : List ℕ) (rule : Rule) (s : Statement) → RuleFits lines k n spec is rule s → AllMet n spec is rule s
  rule_met n spec is Basic (skip row) h = none_met n spec is Basic (skip row) refl refl tt h
  rule_met n spec is Basic (assign row a) h = none_met n spec is Basic (assign row a) refl refl tt h
  rule_met n spec is Atomic (await row b act) h = none_met n spec is Atomic (await row b act) refl refl tt h
  rule_met n spec is Seq (sequence row s items) h = items_met n spec row s items is h
  rule_met n spec is If (branch row b s t) h = choice_met n spec row b s t is h
  rule_met n spec is Loop (loop row b s) h = turn_met n spec row b s is h
  rule_met n spec is Conseq s h = conseq_met n spec s is h
  rule_met n spec is _ _ h = absurd h

  -- a line that fits meets all demands
  pub fits_answer : (all : List Statement) (line : LineTree) (answer : Option RefusalNumber) → line.own_number ≡ k → LineFits all lines k line → IsLineAnswer all lines k line answer → answer ≡ None
  fits_answer all line answer own fits h =
      let m = rule_met line.number line.spec line.premises line.rule fits.0 fits.2 in
      let asked = subst (λ o. IsStatementAnswer lines k line o answer) fits.1 (asks_rest LineNumber _ _ answer own h) in
      let early = asks_rest RuleDoesNotFit _ _ answer m.0 asked in
      let numbers = asks_rest NotEarlier _ _ answer m.1.early early in
      let trees = asks_rest WrongStatement _ _ answer m.1.numbered numbers in
      asks_rest FormulaDiffers _ _ answer m.2 trees

pub no_fault : DerivationsHaveNoFault
no_fault parts lines last refusal d h =
    ⊎_elim (λ bad. reported (fits_answer lines bad.place (statements_of_parts parts) bad.line (Some bad.number) (d.numbered bad.place bad.line bad.found) (d.lines_fit bad.place bad.line bad.found) bad.fault)) (λ missing. missing.missing d.parts_derived) h
  where
    reported : {number : RefusalNumber} → Some number ≡ None → ⊥
    reported e = cc e

-- a number that names a line is no greater than the count of lines
nth_most : {X : Type 0} (xs : List X) (k : ℕ) (x : X) → nth xs k ≡ Some x → k ≤ length xs
nth_most xs zero x h = omega arith
nth_most {X} xs (suc k) x h = get_less xs k h
  where
    get_less : (ys : List X) (i : ℕ) → slice_get ys i ≡ Some x → suc i ≤ length ys
    get_less [] i e = cc e
    get_less (y ∷ ys) zero e = omega arith
    get_less (y ∷ ys) (suc i) e = omega (arith, get_less ys i e)

-- lines that all meet their demands, and derive each part
pub derives_of : (parts : List PartTree) (lines : List LineTree) → AreFaultlessBefore (statements_of_parts parts) lines (suc (length lines)) → PartsDerived lines 1 parts → Derives parts lines
derives_of parts lines before derived =
    let all = statements_of_parts parts in
    let most = nth_most lines in
    let fit : (k : ℕ) (line : LineTree) → nth lines k ≡ Some line → (line.own_number ≡ k) × LineFits all lines k line = λ k line found. let le = most k line found in line_fits lines k (omega arith) all line (before k line (omega arith) found) in
    record { numbered = λ k line found. (fit k line found).0; lines_fit = λ k line found. (fit k line found).1; parts_derived = derived }

stands_most : {X : Type 0} (xs : List X) (n : ℕ) (ss : List X) → Stands xs n ss → length ss ≤ length xs
stands_most xs zero ss h = omega (arith, ap length h.1, length-append ss h.0)
stands_most [] (suc n) ss h = absurd h
stands_most (x ∷ xs) (suc n) ss h = omega (arith, stands_most xs n ss h)

-- no statement has more statements inside it than there are in all
pub sizes_within : (parts : List PartTree) (most : ℕ) → length (statements_of_parts parts) ≤ most → (n : ℕ) (s : Statement) → nth (statements_of_parts parts) n ≡ Some s → length (statements s) ≤ most
sizes_within parts most le zero s h = cc h
sizes_within parts most le (suc n) s h =
    omega (arith, le, stands_most (statements_of_parts parts) n (statements s) (closed_parts parts n s h))
