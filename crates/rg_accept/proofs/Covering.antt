-- The pre of a line holds where the part stands that it is about: along the blocks of a part's code, by induction over the lines of its derivation.
use Rattle.std.proofs.Common.{◌≡◌, ◌∙◌, ℕ, zero, suc, ◌+◌, ◌<◌, ◌≤◌, Bool, true, false, not, List, [], ◌∷◌, length, map, Option, Some, None, refl, ap, sym, subst, arith}
use Rattle.std.specs.Prelude.{slice_get, if◌then◌else◌}
use Rattle.std.proofs.lemmas.Bool.{and_parts, and_from, not_from_false}
use Rattle.rg_words.specs.Layout.{Word}
use Rattle.rg_words.specs.States.{IsState, IsPair}
use Rattle.rg_words.specs.declared.operators.Connective.TheVariants.{And}
use Rattle.rg_tree.specs.Trees.{Proposition, Assignment, negation, connected}
use Rattle.rg_tree.specs.Statements.{Statement, skip, assign, await, sequence, branch, loop, Items, one, more, Specification}
use Rattle.rg_tree.specs.Numbering.{statements, statements_of_items}
use Rattle.rg_tree.specs.Meaning.{holds}
use Rattle.rg_tree.specs.Traces.{State, holds_at, ViewStep, Own, Env, last, IsTrace, EnvInside}
use Rattle.rg_tree.specs.ConditionTrees.{assigned}
use Rattle.rg_tree.specs.Programs.{nth}
use Rattle.rg_tree.specs.RuleConditions.{IsStable, StepsInside, AllMet}
use Rattle.rg_tree.specs.Lines.{LineTree}
use Rattle.rg_tree.specs.declared.line.Rule.{Rule}
use Rattle.rg_tree.specs.declared.line.Rule.TheVariants.{Basic, Atomic, Seq, If, Loop, Conseq}
use Rattle.rg_tree.proofs.Asked.{inside_more}
use Rattle.rg_tree.proofs.Guards.{trace_state}
use Rattle.rg_tree.proofs.Stands.{Stands, stands_get, stands_tail, stands_front, stands_back}
use Rattle.rg_rules.specs.Derivations.{IsPremise, ItemsFit, ChoiceFits, LoopFits, ConseqFits, RuleFits, DerivationFits, spec_of_line, first_spec, step_conditions, choice_conditions, loop_conditions, conditions_from, conditions_of_rule, conditions_at, conditions_asked}
use Rattle.rg_rules.proofs.Rules.{stable_step}
use Rattle.rg_rules.proofs.Lines.{line_true, number_of}
use Rattle.rg_code.specs.Code.{BlockTree, do_block, store_of, Makes_step, count_of, code_of, code_of_items}
use Rattle.rg_accept.specs.Standing.{block_numbers, is_conseq, IsAsserted}
use Rattle.rg_accept.proofs.Blocks.{numbers_front, numbers_back, code_back, do_makes, await_makes, test_makes}

-- these steps of a part's code, as the part sees them, lead from this place to the other
abbrev pub Leads : List BlockTree → ℕ → State → List ViewStep → ℕ → Type 0
Leads code k s [] e = e ≡ k
Leads code k s (Env t ∷ ms) e = Leads code k t ms e
Leads code k s (Own t ∷ ms) e = (to : ℕ) × Makes_step (slice_get code k) s t to × Leads code to t ms e

module _ (words : List Word) (lines : List LineTree) (R : State → State → Bool) (code : List BlockTree) (ns : List ℕ) where
  -- the statement whose block stands at a place is asserted
  abbrev pub Says : ℕ → State → Type 0
  Says e s = (n : ℕ) → slice_get ns e ≡ Some n → IsAsserted lines n s

  -- so is that of each place to which fewer than n steps lead from this place and state
  abbrev pub Goes : ℕ → ℕ → State → Type 0
  Goes n k s = (ms : List ViewStep) (e : ℕ) → length ms < n → IsTrace words s ms → EnvInside R s ms → Leads code k s ms e → Says e (last s ms)

  -- and from each state in which p holds
  abbrev pub Covers : ℕ → ℕ → (State → Bool) → Type 0
  Covers n k p = (s : State) → p s ≡ true → Goes n k s

  covers_fewer : (n m k : ℕ) (p : State → Bool) → m ≤ n → Covers n k p → Covers m k p
  covers_fewer n m k p le c s at ms e less = c s at ms e (omega arith)

  covers_none : (k : ℕ) (p : State → Bool) → Covers 0 k p
  covers_none k p s at ms e less = absurd (omega arith)

  covers_from : (n k : ℕ) (p q : State → Bool) → ((s : State) → IsState words s → p s ≡ true → q s ≡ true) → Covers n k q → Covers n k p
  covers_from n k p q h c s at ms e less tr = c s (h s (trace_state words s ms tr) at) ms e less tr

  -- where no step is made, and no statement stands
  pub covers_end : (n k : ℕ) (p : State → Bool) → ((s t : State) (to : ℕ) → Makes_step (slice_get code k) s t to → ⊥) → slice_get ns k ≡ None → Covers n k p
  covers_end n k p none past s at ms e less tr env l = still s ms l
    where
      still : (s : State) (ms : List ViewStep) → Leads code k s ms e → Says e (last s ms)
      still s [] l = λ j h. cc (l, past, h)
      still s (Env t ∷ ms) l = still t ms l
      still s (Own t ∷ ms) l = absurd (none s t l.0 l.1)

  -- along one block, before whose step the environment keeps what is stable
  block_covers : (n k : ℕ) (p : State → Bool) (T : State → State → Bool) → IsStable words p T → StepsInside words R T → ((s : State) → p s ≡ true → Says k s) → ((s t : State) (to : ℕ) → IsPair words s t → p s ≡ true → Makes_step (slice_get code k) s t to → Goes n to t) → Covers (suc n) k p
  block_covers n k p T stable le says next s at [] e less tr env l = subst (λ j. Says j s) (sym l) (says s at)
  block_covers n k p T stable le says next s at (Env t ∷ ms) e less tr env l =
      block_covers n k p T stable le says next t (stable_step words p T stable s t tr.0 at (inside_more words R T le s t tr.0 env.0)) ms e (omega arith) tr.1 env.1 l
  block_covers n k p T stable le says next s at (Own t ∷ ms) e less tr env l = next s t l.0 tr.0 at l.1 ms e (omega arith) tr.1 env l.2

  step_covers : (n first next : ℕ) (p q b : State → Bool) (T : State → State → Bool) (act : List Assignment) → IsStable words p T → StepsInside words R T → ((s : State) → p s ≡ true → Says first s) → ((s t : State) (to : ℕ) → Makes_step (slice_get code first) s t to → (b s ≡ true) × (t ≡ assigned act s) × (to ≡ next)) → ((s : State) → IsState words s → p s ≡ true → b s ≡ true → q (assigned act s) ≡ true) → Covers n next q → Covers n first p
  step_covers zero first next p q b T act stable le says made reach c = covers_none first p
  step_covers (suc n) first next p q b T act stable le says made reach c =
      block_covers n first p T stable le says (λ s t to pair at m.
      let h = made s t to m in
      let post : q t ≡ true = subst (λ u. q u ≡ true) (sym h.1) (reach s pair.first at h.0) in
      subst (λ j. Goes n j t) (sym h.2) (covers_fewer (suc n) n next q (omega arith) c t post))

  after_test : (n yes_place no_place to : ℕ) (p b : Proposition) (s t : State) (v : Bool) → holds_at b s ≡ v → t ≡ s → to ≡ (if v then yes_place else no_place) → holds_at p s ≡ true → Covers n yes_place (holds_at (connected And p b)) → Covers n no_place (holds_at (connected And p (negation b))) → Goes n to t
  after_test n yes_place no_place to p b s t true h e goes at on_yes on_no =
      subst (λ j. Goes n j t) (sym goes) (on_yes t (subst (λ u. holds_at (connected And p b) u ≡ true) (sym e) (and_from (holds_at p s) (holds_at b s) at h)))
  after_test n yes_place no_place to p b s t false h e goes at on_yes on_no =
      subst (λ j. Goes n j t) (sym goes) (on_no t (subst (λ u. holds_at (connected And p (negation b)) u ≡ true) (sym e) (and_from (holds_at p s) (not (holds_at b s)) at (not_from_false (holds_at b s) h))))

  test_covers : (n first yes_place no_place : ℕ) (p b : Proposition) (T : State → State → Bool) → IsStable words (holds_at p) T → StepsInside words R T → ((s : State) → holds_at p s ≡ true → Says first s) → ((s t : State) (to : ℕ) → Makes_step (slice_get code first) s t to → (t ≡ s) × (to ≡ (if holds_at b s then yes_place else no_place))) → Covers n yes_place (holds_at (connected And p b)) → Covers n no_place (holds_at (connected And p (negation b))) → Covers (suc n) first (holds_at p)
  test_covers n first yes_place no_place p b T stable le says goes on_yes on_no =
      block_covers n first (holds_at p) T stable le says (λ s t to pair at m. let h = goes s t to m in after_test n yes_place no_place to p b s t (holds_at b s) refl h.0 h.1 at on_yes on_no)

  -- a test that comes again after its block
  loop_covers : (n first yes_place no_place : ℕ) (p b q : Proposition) (T : State → State → Bool) → IsStable words (holds_at p) T → StepsInside words R T → ((s : State) → holds_at p s ≡ true → Says first s) → ((s t : State) (to : ℕ) → Makes_step (slice_get code first) s t to → (t ≡ s) × (to ≡ (if holds_at b s then yes_place else no_place))) → ((s : State) → IsState words s → holds_at (connected And p (negation b)) s ≡ true → holds_at q s ≡ true) → ((m : ℕ) → Covers m first (holds_at p) → Covers m yes_place (holds_at (connected And p b))) → Covers n no_place (holds_at q) → Covers n first (holds_at p)
  loop_covers zero first yes_place no_place p b q T stable le says goes exit body c = covers_none first (holds_at p)
  loop_covers (suc n) first yes_place no_place p b q T stable le says goes exit body c =
      let fewer = covers_fewer (suc n) n no_place (holds_at q) (omega arith) c in
      test_covers n first yes_place no_place p b T stable le says goes (body n (loop_covers n first yes_place no_place p b q T stable le says goes exit body fewer)) (covers_from n no_place (holds_at (connected And p (negation b))) (holds_at q) exit fewer)

  -- a line says it of its own block
  says_line : (place : ℕ) (line : LineTree) (k : ℕ) (rest : List ℕ) → nth lines place ≡ Some line → is_conseq line.rule ≡ false → Stands ns k (line.number ∷ rest) → (s : State) → holds_at line.spec.pre s ≡ true → Says k s
  says_line place line k rest found own st s at n h =
      let here = stands_get ns k line.number rest st in
      record { place = place; line = line; found = found; same_number = cc (here, h); own_rule = own; holding = at }

  module _ (all : List Statement) (inner : (n : ℕ) (s : Statement) → slice_get all n ≡ Some s → Stands all n (statements s)) where
    -- formulas cover a statement of this number: what covers its post after it covers its pre before it
    abbrev pub CoversStatement : Specification → ℕ → Statement → Type 0
    CoversStatement spec number s =
        (m first next n : ℕ) → number ≡ suc m → Stands all m (statements s) → Stands code first (code_of s first next) → Stands ns first (block_numbers number (statements s)) →
        StepsInside words R (holds spec.rely) → Covers n next (holds_at spec.post) → Covers n first (holds_at spec.pre)

    -- earlier lines do
    abbrev Earlier : ℕ → Type 0
    Earlier k = (i : ℕ) (line : LineTree) → i < k → nth lines i ≡ Some line → (s : Statement) → nth all line.number ≡ Some s → CoversStatement line.spec line.number s

    premise_covers : (k i number : ℕ) (spec : Specification) (s : Statement) → Earlier k → IsPremise lines k i number spec → nth all number ≡ Some s → CoversStatement spec number s
    premise_covers k i number spec s ih p h =
        subst (λ (l : Specification). CoversStatement l number s) p.same_spec (subst (λ n. CoversStatement p.line.spec n s) p.same_number (ih i p.line p.earlier p.found s (rw p.same_number h)))

    items_cover : (k number m first next n : ℕ) (spec : Specification) (items : Items) (is : List ℕ) → Earlier k → number ≡ suc m → Stands all m (statements_of_items items) → Stands code first (code_of_items items first next) → Stands ns first (block_numbers number (statements_of_items items)) → StepsInside words R (holds spec.rely) → ItemsFit lines k number spec items is → Covers n next (holds_at spec.post) → Covers n first (holds_at spec.pre)
    items_cover k number m first next n spec (one s) (i ∷ []) ih e sa sc sn le f c =
        premise_covers k i number spec s ih f (number_of words all inner lines m number s e sa) m first next n e sa sc sn le c
    items_cover k number m first next n spec (more s items) (i ∷ is) ih e sa sc sn le f c =
        let mid = first + count_of s in
        let here = stands_front all m (statements s) (statements_of_items items) sa in
        premise_covers k i number (record spec { post = f.0 }) s ih f.1 (number_of words all inner lines m number s e here) m first mid n e here
        (stands_front code first (code_of s first mid) (code_of_items items mid next) sc) (numbers_front ns first number s (statements_of_items items) sn) le
        (items_cover k (number + length (statements s)) (m + length (statements s)) mid next n (record spec { pre = f.0 }) items is ih (omega (arith, e)) (stands_back all m (statements s) (statements_of_items items) sa)
        (code_back code first s mid (code_of_items items mid next) sc) (numbers_back ns first number s (statements_of_items items) sn) le f.2 c)
    items_cover k number m first next n spec (one s) [] ih e sa sc sn le f c = absurd f
    items_cover k number m first next n spec (one s) (i ∷ j ∷ is) ih e sa sc sn le f c = absurd f
    items_cover k number m first next n spec (more s items) [] ih e sa sc sn le f c = absurd f

    -- of a line of each rule
    module _ (k : ℕ) (line : LineTree) (found : nth lines k ≡ Some line) (ih : Earlier k) where
      says_here : (first : ℕ) (rest : List ℕ) → is_conseq line.rule ≡ false → Stands ns first (line.number ∷ rest) → (s : State) → holds_at line.spec.pre s ≡ true → Says first s
      says_here first rest own st = says_line k line first rest found own st

      do_covers : (row : ℕ) (act : List Assignment) (first next n : ℕ) (rest : List ℕ) → is_conseq line.rule ≡ false → slice_get code first ≡ Some (do_block row next (map store_of act)) → Stands ns first (line.number ∷ rest) → StepsInside words R (holds line.spec.rely) → AllMet words (step_conditions line.spec (line.spec.pre ∷ []) act) → Covers n next (holds_at line.spec.post) → Covers n first (holds_at line.spec.pre)
      do_covers row act first next n rest own at sn le c =
          step_covers n first next (holds_at line.spec.pre) (holds_at line.spec.post) (λ s. true) (holds line.spec.rely) act c.1.1.0 le (says_here first rest own sn)
          (λ s t to made. let h = do_makes code row first next act at s t to made in (refl, h.0, h.1)) (λ s st pre b. c.0 s st (pre, tt))

      if_covers : (row m first next n : ℕ) (b : Proposition) (s t : Statement) (is : List ℕ) → is_conseq line.rule ≡ false → line.number ≡ suc m → Stands all m (statements (branch row b s t)) → Stands code first (code_of (branch row b s t) first next) → Stands ns first (block_numbers line.number (statements (branch row b s t))) → StepsInside words R (holds line.spec.rely) → ChoiceFits lines k line.number line.spec b s is → AllMet words (choice_conditions line.spec) → Covers n next (holds_at line.spec.post) → Covers n first (holds_at line.spec.pre)
      if_covers row m first next n b s t [] own e sa sc sn le f c cov = absurd f
      if_covers row m first next n b s t (i ∷ []) own e sa sc sn le f c cov = absurd f
      if_covers row m first next zero b s t (i ∷ j ∷ []) own e sa sc sn le f c cov = covers_none first (holds_at line.spec.pre)
      if_covers row m first next (suc n) b s t (i ∷ j ∷ []) own e sa sc sn le f c cov =
          let no_place = suc first + count_of s in
          let yes_number : line.number + 1 ≡ suc (suc m) = omega (arith, e) in
          let no_number : line.number + 1 + length (statements s) ≡ suc (suc m + length (statements s)) = omega (arith, e) in
          let below = stands_tail all m _ _ sa in
          let code_below = stands_tail code first _ _ sc in
          let numbers_below = stands_tail ns first _ _ sn in
          let yes_stands = stands_front all (suc m) (statements s) (statements t) below in
          let no_stands = stands_back all (suc m) (statements s) (statements t) below in
          let fewer = covers_fewer (suc n) n next (holds_at line.spec.post) (omega arith) cov in
          test_covers n first (suc first) no_place line.spec.pre b (holds line.spec.rely) c.0 le (says_here first _ own sn) (test_makes code row first (suc first) no_place b (stands_get code first _ _ sc))
          (premise_covers k i (line.number + 1) _ s ih f.0 (number_of words all inner lines (suc m) (line.number + 1) s yes_number yes_stands) (suc m) (suc first) next n yes_number yes_stands
          (stands_front code (suc first) (code_of s (suc first) next) (code_of t no_place next) code_below) (numbers_front ns (suc first) (line.number + 1) s (statements t) numbers_below) le fewer)
          (premise_covers k j (line.number + 1 + length (statements s)) _ t ih f.1 (number_of words all inner lines (suc m + length (statements s)) (line.number + 1 + length (statements s)) t no_number no_stands) (suc m + length (statements s)) no_place next n no_number no_stands
          (code_back code (suc first) s next (code_of t no_place next) code_below) (numbers_back ns (suc first) (line.number + 1) s (statements t) numbers_below) le fewer)
      if_covers row m first next n b s t (i ∷ j ∷ l ∷ is) own e sa sc sn le f c cov = absurd f

      while_covers : (row m first next n : ℕ) (b : Proposition) (s : Statement) (is : List ℕ) → is_conseq line.rule ≡ false → line.number ≡ suc m → Stands all m (statements (loop row b s)) → Stands code first (code_of (loop row b s) first next) → Stands ns first (block_numbers line.number (statements (loop row b s))) → StepsInside words R (holds line.spec.rely) → LoopFits lines k line.number line.spec b is → AllMet words (loop_conditions line.spec b) → Covers n next (holds_at line.spec.post) → Covers n first (holds_at line.spec.pre)
      while_covers row m first next n b s [] own e sa sc sn le f c cov = absurd f
      while_covers row m first next n b s (i ∷ []) own e sa sc sn le f c cov =
          let number : line.number + 1 ≡ suc (suc m) = omega (arith, e) in
          let stands = stands_tail all m _ _ sa in
          loop_covers n first (suc first) next line.spec.pre b line.spec.post (holds line.spec.rely) c.0 le (says_here first _ own sn) (test_makes code row first (suc first) next b (stands_get code first _ _ sc))
          (λ x st at. let both = and_parts (holds_at line.spec.pre x) (not (holds_at b x)) at in c.1.0 x st (both.0, (both.1, tt)))
          (λ fuel again. premise_covers k i (line.number + 1) _ s ih f (number_of words all inner lines (suc m) (line.number + 1) s number stands) (suc m) (suc first) first fuel number stands
          (stands_tail code first _ _ sc) (stands_tail ns first _ _ sn) le again)
          cov
      while_covers row m first next n b s (i ∷ j ∷ is) own e sa sc sn le f c cov = absurd f

      same_covers : (s : Statement) (is : List ℕ) → nth all line.number ≡ Some s → ConseqFits lines k line.number is → AllMet words (conditions_from line.spec (first_spec lines is)) → CoversStatement line.spec line.number s
      same_covers s [] h f c m first next n e sa sc sn le cov = absurd f
      same_covers s (i ∷ []) h f c m first next n e sa sc sn le cov =
          let from = f.0 in
          let is_from : first_spec lines (i ∷ []) ≡ Some from = ap spec_of_line f.1.found ∙ ap (λ (l : Specification). Some l) f.1.same_spec in
          let c' = subst (λ (o : Option Specification). AllMet words (conditions_from line.spec o)) is_from c in
          covers_from n first (holds_at line.spec.pre) (holds_at from.pre) (λ x st at. c'.0 x st (at, tt))
          (premise_covers k i line.number from s ih f.1 h m first next n e sa sc sn (λ x y pair r. inside_more words (holds line.spec.rely) (holds from.rely) c'.1.0 x y pair (le x y pair r))
          (covers_from n next (holds_at from.post) (holds_at line.spec.post) (λ x st at. c'.1.1.1.0 x st (at, tt)) cov))
      same_covers s (i ∷ j ∷ is) h f c m first next n e sa sc sn le cov = absurd f

      rule_covers : (rule : Rule) (s : Statement) → line.rule ≡ rule → nth all line.number ≡ Some s → RuleFits lines k line.number line.spec line.premises rule s → AllMet words (conditions_of_rule lines line.spec line.premises rule s) → CoversStatement line.spec line.number s
      rule_covers Basic (skip row) own h f c m first next n e sa sc sn le cov = do_covers row [] first next n [] (ap is_conseq own) (stands_get code first _ _ sc) sn le c cov
      rule_covers Basic (assign row a) own h f c m first next n e sa sc sn le cov = do_covers row (a ∷ []) first next n [] (ap is_conseq own) (stands_get code first _ _ sc) sn le c cov
      rule_covers Atomic (await row b act) own h f c m first next n e sa sc sn le cov =
          step_covers n first next (holds_at line.spec.pre) (holds_at line.spec.post) (holds_at b) (holds line.spec.rely) act c.1.1.0 le (says_here first [] (ap is_conseq own) sn)
          (await_makes code row first next b act (stands_get code first _ _ sc)) (λ s st pre test. c.0 s st (pre, (test, tt))) cov
      rule_covers Seq (sequence row s items) own h f c m first next n e sa sc sn le cov =
          items_cover k (line.number + 1) (suc m) first next n line.spec (more s items) line.premises ih (omega (arith, e)) (stands_tail all m _ _ sa) sc sn le f cov
      rule_covers If (branch row b s t) own h f c m first next n e sa sc sn le cov = if_covers row m first next n b s t line.premises (ap is_conseq own) e sa sc sn le f c cov
      rule_covers Loop (loop row b s) own h f c m first next n e sa sc sn le cov = while_covers row m first next n b s line.premises (ap is_conseq own) e sa sc sn le f c cov
      rule_covers Conseq s own h f c m first next n e sa sc sn le cov = same_covers s line.premises h f c m first next n e sa sc sn le cov
      rule_covers _ _ own h f c m first next n e sa sc sn le cov = absurd f

    -- each line covers its statement
    pub lines_cover : DerivationFits all lines → AllMet words (conditions_asked all lines lines) → (bound : ℕ) → Earlier bound
    lines_cover fits met zero k line less found s h = absurd (omega arith)
    lines_cover fits met (suc bound) zero line less found s h = cc found
    lines_cover fits met (suc bound) (suc k) line less found s h =
        let f = fits (suc k) line found in
        let same : f.0 ≡ s = cc (f.1, h) in
        let c = subst (λ (o : Option Statement). AllMet words (conditions_at lines line o)) h (line_true words all inner lines lines k line found met) in
        rule_covers (suc k) line found (λ i l less' at t g. lines_cover fits met bound i l (omega arith) at t g) line.rule s refl h (subst (λ (x : Statement). RuleFits lines (suc k) line.number line.spec line.premises line.rule x) same f.2) c
