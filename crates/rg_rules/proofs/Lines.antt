-- Where all conditions of a derivation are true, each line says the truth: by induction over the lines.
use Rattle.std.proofs.Common.{◌≡◌, ℕ, zero, suc, ◌+◌, ◌<◌, Bool, true, false, not, ◌&&◌, List, [], ◌∷◌, length, Some, refl, subst, ap, ◌∙◌, arith}
use Rattle.std.specs.Prelude.{slice_get}
use Rattle.rg_words.specs.Layout.{Word}
use Rattle.rg_words.specs.declared.operators.Connective.TheVariants.{And}
use Rattle.rg_tree.specs.Trees.{Proposition, Assignment, negation, connected}
use Rattle.rg_tree.specs.Statements.{Statement, skip, assign, await, sequence, branch, loop, Items, one, more, Specification}
use Rattle.rg_tree.specs.Numbering.{statements, statements_of_items, statements_of_parts}
use Rattle.rg_tree.specs.Programs.{nth}
use Rattle.rg_tree.specs.Meaning.{holds}
use Rattle.rg_tree.specs.Traces.{holds_at}
use Rattle.rg_tree.specs.ConditionTrees.{assigned}
use Rattle.rg_tree.specs.Runs.{runs, runs_of_items, always, Atomic as AtomicRun}
use Rattle.rg_tree.specs.RuleConditions.{AllMet}
use Rattle.rg_tree.proofs.Asked.{met_front, met_back}
use Rattle.rg_tree.proofs.Guards.{Sound, StatementSound, Sound-Satisfies}
use Rattle.rg_tree.specs.declared.line.Rule.{Rule}
use Rattle.rg_tree.specs.declared.line.Rule.TheVariants.{Basic, Atomic, Seq, If, Loop, Conseq}
use Rattle.rg_rules.specs.Derivations.{IsPremise, ItemsFit, ChoiceFits, LoopFits, ConseqFits, RuleFits, DerivationFits, spec_of_line, first_spec, step_conditions, conditions_from, conditions_of_rule, conditions_at, conditions_of_line, conditions_asked, RulesAreSound}
use Rattle.rg_rules.proofs.Rules.{atomic_sound, then_sound, choice_sound, loop_sound, conseq_sound}
use Rattle.rg_tree.proofs.Stands.{Stands, stands_get, stands_tail, stands_front, stands_back}
use Rattle.rg_tree.specs.Lines.{LineTree}
use Rattle.rg_rules.proofs.Places.{closed_parts}

and_both : (a b : Bool) → a ≡ true → b ≡ true → (a && b) ≡ true
and_both a b h j = rw (h, j)

and_not : (a b : Bool) → a ≡ true → b ≡ false → (a && not b) ≡ true
and_not a b h j = rw (h, j)

not_false : (b : Bool) → b ≡ false → not b ≡ true
not_false b h = rw h

head_of : (s : Statement) → (rest : List Statement) × (statements s ≡ s ∷ rest)
head_of (skip row) = ([], refl)
head_of (assign row a) = ([], refl)
head_of (await row b as') = ([], refl)
head_of (sequence row s items) = (_, refl)
head_of (branch row b s t) = (_, refl)
head_of (loop row b s) = (_, refl)

-- what a line says of its statement, if it has one
abbrev pub LineSound : List Word → List Statement → LineTree → Type 0
LineSound words all line = (s : Statement) → nth all line.number ≡ Some s → StatementSound words line.spec s

-- a line whose statement makes one step
step_sound : (words : List Word) (spec : Specification) (act : List Assignment) → AllMet words (step_conditions spec (spec.pre ∷ []) act) → Sound words (holds_at spec.pre) (holds spec.rely) (holds spec.guar) (holds_at spec.post) (AtomicRun always (assigned act))
step_sound words spec act c =
    atomic_sound words _ _ _ _ always (assigned act) (λ s st at b. c.0 s st (at, tt)) (λ s st pair at b. c.1.0 s st pair (at, tt)) c.1.1.0 c.1.1.1.0

module _ (words : List Word) (all : List Statement) (inner : (n : ℕ) (s : Statement) → slice_get all n ≡ Some s → Stands all n (statements s)) (lines : List LineTree) where
  pub line_true : (rest : List LineTree) (k : ℕ) (line : LineTree) → slice_get rest k ≡ Some line → AllMet words (conditions_asked all lines rest) → AllMet words (conditions_of_line all lines line)
  line_true [] k line h c = cc h
  line_true (x ∷ rest) zero line h c =
      let same : x ≡ line = cc h in
      subst (λ l. AllMet words (conditions_of_line all lines l)) same (met_front words (conditions_of_line all lines x) (conditions_asked all lines rest) c)
  line_true (x ∷ rest) (suc k) line h c =
      line_true rest k line h (met_back words (conditions_of_line all lines x) (conditions_asked all lines rest) c)

  -- the statement of a number, with those inside it
  place_of : (n : ℕ) (s : Statement) → nth all n ≡ Some s → (m : ℕ) × (n ≡ suc m) × Stands all m (statements s)
  place_of zero s h = cc h
  place_of (suc m) s h = (m, refl, inner m s h)

  pub number_of : (m n : ℕ) (s : Statement) → n ≡ suc m → Stands all m (statements s) → nth all n ≡ Some s
  number_of m n s e h =
      let top = head_of s in
      rw e (stands_get all m s top.0 (subst (λ l. Stands all m l) top.1 h))

  -- earlier lines say the truth
  abbrev Earlier : ℕ → Type 0
  Earlier k = (i : ℕ) (line : LineTree) → i < k → nth lines i ≡ Some line → LineSound words all line

  premise_sound : (k i n : ℕ) (spec : Specification) (s : Statement) → Earlier k → IsPremise lines k i n spec → nth all n ≡ Some s → StatementSound words spec s
  premise_sound k i n spec s ih p h =
      subst (λ l. StatementSound words l s) p.same_spec (ih i p.line p.earlier p.found s (rw p.same_number h))

  items_sound : (k n m : ℕ) (spec : Specification) (items : Items) (is : List ℕ) → Earlier k → n ≡ suc m → Stands all m (statements_of_items items) → ItemsFit lines k n spec items is → Sound words (holds_at spec.pre) (holds spec.rely) (holds spec.guar) (holds_at spec.post) (runs_of_items items)
  items_sound k n m spec (one s) (i ∷ []) ih e h f = premise_sound k i n spec s ih f (number_of m n s e h)
  items_sound k n m spec (more s items) (i ∷ is) ih e h f =
      then_sound words _ _ _ _ (holds_at f.0) (runs s) (runs_of_items items) (premise_sound k i n _ s ih f.1 (number_of m n s e (stands_front all m (statements s) _ h))) (items_sound k (n + length (statements s)) (m + length (statements s)) _ items is ih (omega arith) (stands_back all m (statements s) _ h) f.2)
  items_sound k n m spec (one s) [] ih e h f = absurd f
  items_sound k n m spec (one s) (i ∷ j ∷ is) ih e h f = absurd f
  items_sound k n m spec (more s items) [] ih e h f = absurd f

  if_sound : (row k n m : ℕ) (spec : Specification) (b : Proposition) (s t : Statement) (is : List ℕ) → Earlier k → n ≡ suc m → Stands all m (statements (branch row b s t)) → ChoiceFits lines k n spec b s is → AllMet words (conditions_of_rule lines spec is If (branch row b s t)) → StatementSound words spec (branch row b s t)
  if_sound row k n m spec b s t [] ih e h f c = absurd f
  if_sound row k n m spec b s t (i ∷ []) ih e h f c = absurd f
  if_sound row k n m spec b s t (i ∷ j ∷ []) ih e h f c =
      let below = stands_tail all m _ _ h in
      choice_sound words _ _ _ _ (holds_at b) (holds_at (connected And spec.pre b)) (holds_at (connected And spec.pre (negation b))) (runs s) (runs t) (λ x at yes'. and_both _ _ at yes') (λ x at no'. and_not _ _ at no') c.0 (premise_sound k i (n + 1) _ s ih f.0 (number_of (suc m) (n + 1) s (omega arith) (stands_front all (suc m) (statements s) _ below))) (premise_sound k j (n + 1 + length (statements s)) _ t ih f.1 (number_of (suc m + length (statements s)) (n + 1 + length (statements s)) t (omega arith) (stands_back all (suc m) (statements s) _ below)))
  if_sound row k n m spec b s t (i ∷ j ∷ l ∷ is) ih e h f c = absurd f

  while_sound : (row k n m : ℕ) (spec : Specification) (b : Proposition) (s : Statement) (is : List ℕ) → Earlier k → n ≡ suc m → Stands all m (statements (loop row b s)) → LoopFits lines k n spec b is → AllMet words (conditions_of_rule lines spec is Loop (loop row b s)) → StatementSound words spec (loop row b s)
  while_sound row k n m spec b s [] ih e h f c = absurd f
  while_sound row k n m spec b s (i ∷ []) ih e h f c =
      loop_sound words _ _ _ _ (holds_at b) (holds_at (connected And spec.pre b)) (runs s) (λ x at yes'. and_both _ _ at yes') c.0 (λ x st at no'. c.1.0 x st (at, (not_false _ no', tt))) c.1.1.0 (premise_sound k i (n + 1) _ s ih f (number_of (suc m) (n + 1) s (omega arith) (stands_tail all m _ _ h)))
  while_sound row k n m spec b s (i ∷ j ∷ is) ih e h f c = absurd f

  same_sound : (k n : ℕ) (spec : Specification) (s : Statement) (is : List ℕ) → Earlier k → nth all n ≡ Some s → ConseqFits lines k n is → AllMet words (conditions_from spec (first_spec lines is)) → StatementSound words spec s
  same_sound k n spec s [] ih h f c = absurd f
  same_sound k n spec s (i ∷ []) ih h f c =
      let from = f.0 in
      let e : first_spec lines (i ∷ []) ≡ Some from = ap spec_of_line f.1.found ∙ ap Some f.1.same_spec in
      let c' = subst (λ o. AllMet words (conditions_from spec o)) e c in
      conseq_sound words _ _ _ _ _ _ _ _ (runs s) (λ x st at. c'.0 x st (at, tt)) c'.1.0 c'.1.1.0 (λ x st at. c'.1.1.1.0 x st (at, tt)) (premise_sound k i n from s ih f.1 h)
  same_sound k n spec s (i ∷ j ∷ is) ih h f c = absurd f

  rule_sound : (k n m : ℕ) (spec : Specification) (is : List ℕ) (rule : Rule) (s : Statement) → Earlier k → nth all n ≡ Some s → n ≡ suc m → Stands all m (statements s) → RuleFits lines k n spec is rule s → AllMet words (conditions_of_rule lines spec is rule s) → StatementSound words spec s
  rule_sound k n m spec is Basic (skip row) ih h e st f c = step_sound words spec [] c
  rule_sound k n m spec is Basic (assign row a) ih h e st f c = step_sound words spec (a ∷ []) c
  rule_sound k n m spec is Atomic (await row b act) ih h e st f c =
      atomic_sound words _ _ _ _ (holds_at b) (assigned act) (λ x s at t. c.0 x s (at, (t, tt))) (λ x s pair at t. c.1.0 x s pair (at, (t, tt))) c.1.1.0 c.1.1.1.0
  rule_sound k n m spec is Seq (sequence row s items) ih h e st f c =
      items_sound k (n + 1) (suc m) spec (more s items) is ih (omega arith) (stands_tail all m _ _ st) f
  rule_sound k n m spec is If (branch row b s t) ih h e st f c = if_sound row k n m spec b s t is ih e st f c
  rule_sound k n m spec is Loop (loop row b s) ih h e st f c = while_sound row k n m spec b s is ih e st f c
  rule_sound k n m spec is Conseq s ih h e st f c = same_sound k n spec s is ih h f c
  rule_sound k n m spec is _ _ ih h e st f c = absurd f

  pub lines_sound : DerivationFits all lines → AllMet words (conditions_asked all lines lines) → (bound k : ℕ) → k < bound → (line : LineTree) → nth lines k ≡ Some line → LineSound words all line
  lines_sound fits conditions zero k le line found s h = absurd (omega arith)
  lines_sound fits conditions (suc bound) zero le line found s h = cc found
  lines_sound fits conditions (suc bound) (suc k) le line found s h =
      let earlier : Earlier (suc k) = λ i l lt at. lines_sound fits conditions bound i (omega arith) l at in
      let f = fits (suc k) line found in
      let same : f.0 ≡ s = cc (f.1, h) in
      let place = place_of line.number s h in
      let c = subst (λ o. AllMet words (conditions_at lines line o)) h (line_true lines k line found conditions) in
      rule_sound (suc k) line.number place.0 line.spec line.premises line.rule s earlier h place.1 place.2 (subst (λ x. RuleFits lines (suc k) line.number line.spec line.premises line.rule x) same f.2) c

pub rules_are_sound : RulesAreSound
rules_are_sound words parts lines fits met k line s found h =
    Sound-Satisfies words _ _ _ _ (runs s) (lines_sound words (statements_of_parts parts) (closed_parts parts) lines fits met (suc k) k (omega arith) line found s h)
