-- The code of what is left of a program: block by block it makes the steps that stay.
use Rattle.std.proofs.Common.{◌≡◌, ℕ, zero, suc, ◌+◌, Bool, true, false, List, [], ◌∷◌, ◌++◌, cond, map, Option, Some, None, refl, sym, ap, ◌∙◌, subst, arith}
use Rattle.std.specs.Prelude.{slice_set, slice_get, option_map, if◌then◌else◌}
use Rattle.std.proofs.lemmas.List.{set-get_or}
use Rattle.rg_words.specs.Layout.{Word}
use Rattle.rg_words.specs.States.{IsState, IsPair}
use Rattle.rg_tree.specs.Trees.{Proposition, Assignment, word, truth, negation, connected, compared}
use Rattle.rg_tree.specs.Meaning.{value_of}
use Rattle.rg_tree.specs.Traces.{State, holds_at}
use Rattle.rg_tree.specs.ConditionTrees.{assigned}
use Rattle.rg_tree.specs.Statements.{Statement, skip, assign, await, sequence, branch, loop, Items, one, more, PartTree}
use Rattle.rg_tree.specs.TypedPrograms.{IsTypedAction, IsTypedStatement, AreTypedItems, AreTypedParts}
use Rattle.rg_tree.proofs.Steps.{steps_are_pairs}
use Rattle.rg_code.specs.Operations.{formula_operations, reported_by}
use Rattle.rg_code.specs.Code.{BlockTree, do_block, await_block, test_block, end_block, stored, store_of, Makes_step, is_end, count_of, count_of_items, code_of, code_of_items, part_code, program_code}
use Rattle.rg_code.proofs.Operations.{reported_formula, stored_assigned}
use Rattle.rg_erase.specs.Erased.{staying, new_place, is_erased, speaks_of, renamed_formula, renamed_assignment, kept_assignments, is_always, awaiting, without, items_without, part_without}
use Rattle.rg_erase.specs.Faults.{values_mention, read_in, read_in_items, read_in_parts}
use Rattle.rg_erase.specs.declared.fault.Fault.TheVariants.{Read}
use Rattle.rg_erase.proofs.States.{staying_set, staying_set_erased}
use Rattle.rg_erase.proofs.Mentions.{first_none, second_none, value_renamed, truth_renamed}
use Rattle.rg_erase.proofs.Typed.{map_none, assignment_stays, assignment_goes, value_mentions, rest_mention}

module _ (words : List Word) (erased : List Bool) where
  -- what stays of a step that a block makes from s to this state and place
  pub record StepBack (b : Option BlockTree) (s t' : State) (to : ℕ) : Type 0 where
    pub after : State
    pub makes : Makes_step b s after to
    pub stays : staying erased after ≡ t'
    pub pair : IsPair words s after

  -- b' makes what stays of the steps of b, and ends where b does
  pub record IsShadowBlock (b b' : Option BlockTree) : Type 0 where
    pub forth : (s t : State) (to : ℕ) → IsState words s → Makes_step b s t to → Makes_step b' (staying erased s) (staying erased t) to
    pub back : (s t' : State) (to : ℕ) → IsState words s → Makes_step b' (staying erased s) t' to → StepBack b s t' to
    pub ends : is_end b ≡ is_end b'

  -- assignments whose step stays in these
  abbrev Keeps : List Assignment → List Assignment → Type 0
  Keeps act act' = (s : State) → assigned act' (staying erased s) ≡ staying erased (assigned act s)

  keeps : (act : List Assignment) → values_mention erased act ≡ None → Keeps act (kept_assignments erased act)
  keeps [] n s = refl
  keeps (a ∷ act) n s = by_flag (is_erased erased a.target) refl (keeps act (rest_mention erased a act n) (slice_set s a.target (value_of a.value s s)))
    where
      by_flag : (b : Bool) → is_erased erased a.target ≡ b
          → assigned (kept_assignments erased act) (staying erased (slice_set s a.target (value_of a.value s s))) ≡ staying erased (assigned act (slice_set s a.target (value_of a.value s s)))
          → assigned (kept_assignments erased (a ∷ act)) (staying erased s) ≡ staying erased (assigned (a ∷ act) s)
      by_flag true e rest =
          ap (λ (xs : List Assignment). assigned xs (staying erased s)) (assignment_goes erased a act e)
          ∙ ap (λ (u : State). assigned (kept_assignments erased act) u) (sym (staying_set_erased erased s a.target (value_of a.value s s) e))
          ∙ rest
      by_flag false e rest =
          let value = value_renamed erased a.value s s (value_mentions erased a act e n) in
          ap (λ (xs : List Assignment). assigned xs (staying erased s)) (assignment_stays erased a act e)
          ∙ ap (λ x. assigned (kept_assignments erased act) (slice_set (staying erased s) (new_place erased a.target) x)) value
          ∙ ap (λ (u : State). assigned (kept_assignments erased act) u) (sym (staying_set erased s a.target (value_of a.value s s) e))
          ∙ rest

  -- where nothing is kept, the step changes nothing that stays
  keeps_own : (own : ℕ) (act : List Assignment) → Keeps act [] → Keeps act (record { target = own; value = word own } ∷ [])
  keeps_own own act h s = set-get_or (staying erased s) own 0 ∙ h s

  same_state : (s t : State) → Some s ≡ Some t → s ≡ t
  same_state s t e = cc e

  -- a step of assignments, there and back
  step_forth : (act act' : List Assignment) → Keeps act act' → (s t : State) → stored (map store_of act) s ≡ Some t → stored (map store_of act') (staying erased s) ≡ Some (staying erased t)
  step_forth act act' keep s t h =
      let e : assigned act s ≡ t = same_state _ _ (sym (stored_assigned act s) ∙ h) in
      stored_assigned act' (staying erased s) ∙ ap (λ (u : State). Some u) (keep s ∙ ap (λ (u : State). staying erased u) e)

  step_back : (act act' : List Assignment) → Keeps act act' → (s t' : State) → stored (map store_of act') (staying erased s) ≡ Some t' → staying erased (assigned act s) ≡ t'
  step_back act act' keep s t' h = sym (keep s) ∙ same_state _ _ (sym (stored_assigned act' (staying erased s)) ∙ h)

  do_shadow : (row next : ℕ) (act act' : List Assignment) → IsTypedAction words act → Keeps act act' → IsShadowBlock (Some (do_block row next (map store_of act))) (Some (do_block row next (map store_of act')))
  do_shadow row next act act' typed keep = record {
    forth = λ s t to st m. (step_forth act act' keep s t m.0, m.1);
    back = λ s t' to st m. record {
      after = assigned act s;
      makes = (stored_assigned act s, m.1);
      stays = step_back act act' keep s t' m.0;
      pair = steps_are_pairs words act s typed st;
    };
    ends = refl;
  }

  await_shadow : (row next : ℕ) (f f' : Proposition) (act act' : List Assignment) → IsTypedAction words act → Keeps act act' → ((s : State) → holds_at f' (staying erased s) ≡ holds_at f s) → IsShadowBlock (Some (await_block row next (formula_operations f) (map store_of act))) (Some (await_block row next (formula_operations f') (map store_of act')))
  await_shadow row next f f' act act' typed keep same = record {
    forth = λ s t to st m.
        (reported_formula f' (staying erased s) ∙ ap (λ b. Some b) (same s) ∙ sym (reported_formula f s) ∙ m.0, step_forth act act' keep s t m.1, m.2);
    back = λ s t' to st m. record {
      after = assigned act s;
      makes = (reported_formula f s ∙ ap (λ b. Some b) (sym (same s)) ∙ sym (reported_formula f' (staying erased s)) ∙ m.0, stored_assigned act s, m.2);
      stays = step_back act act' keep s t' m.1;
      pair = steps_are_pairs words act s typed st;
    };
    ends = refl;
  }

  -- an await that needn't wait, and of which nothing is kept
  skip_shadow : (row next : ℕ) (f : Proposition) (act : List Assignment) → IsTypedAction words act → Keeps act [] → ((s : State) → holds_at f s ≡ true) → IsShadowBlock (Some (await_block row next (formula_operations f) (map store_of act))) (Some (do_block row next []))
  skip_shadow row next f act typed keep always = record {
    forth = λ s t to st m. (step_forth act [] keep s t m.1, m.2);
    back = λ s t' to st m. record {
      after = assigned act s;
      makes = (reported_formula f s ∙ ap (λ b. Some b) (always s), stored_assigned act s, m.1);
      stays = step_back act [] keep s t' m.0;
      pair = steps_are_pairs words act s typed st;
    };
    ends = refl;
  }

  test_shadow : (row yes_place no_place : ℕ) (f f' : Proposition) → ((s : State) → holds_at f' (staying erased s) ≡ holds_at f s) → IsShadowBlock (Some (test_block row yes_place no_place (formula_operations f))) (Some (test_block row yes_place no_place (formula_operations f')))
  test_shadow row yes_place no_place f f' same = record {
    forth = λ s t to st m. (ap (λ (u : State). staying erased u) m.0, goes_on (reports s) m.1);
    back = λ s t' to st m. record {
      after = s;
      makes = (refl, goes_on (sym (reports s)) m.1);
      stays = sym m.0;
      pair = steps_are_pairs words [] s (tt, tt, tt) st;
    };
    ends = refl;
  }
    where
      reports : (s : State) → reported_by (formula_operations f) s ≡ reported_by (formula_operations f') (staying erased s)
      reports s = reported_formula f s ∙ ap (λ b. Some b) (sym (same s)) ∙ sym (reported_formula f' (staying erased s))

      goes_on : {o p : Option Bool} {to : ℕ} → o ≡ p → option_map (λ v. if v then yes_place else no_place) o ≡ Some to → option_map (λ v. if v then yes_place else no_place) p ≡ Some to
      goes_on e h = ap (λ (o : Option Bool). option_map (λ v. if v then yes_place else no_place) o) (sym e) ∙ h

  -- block by block
  abbrev pub AreShadowBlocks : List BlockTree → List BlockTree → Type 0
  AreShadowBlocks [] [] = Unit {0}
  AreShadowBlocks (b ∷ bs) (c ∷ cs) = IsShadowBlock (Some b) (Some c) × AreShadowBlocks bs cs
  AreShadowBlocks _ _ = ⊥

  shadows_append : (bs bs' cs cs' : List BlockTree) → AreShadowBlocks bs bs' → AreShadowBlocks cs cs' → AreShadowBlocks (bs ++ cs) (bs' ++ cs')
  shadows_append [] [] cs cs' h k = k
  shadows_append [] (b' ∷ bs') cs cs' h k = absurd h
  shadows_append (b ∷ bs) [] cs cs' h k = absurd h
  shadows_append (b ∷ bs) (b' ∷ bs') cs cs' h k = (h.0, shadows_append bs bs' cs cs' h.1 k)

  none_shadow : IsShadowBlock None None
  none_shadow = record { forth = λ s t to st m. absurd m; back = λ s t' to st m. absurd m; ends = refl }

  end_shadow : IsShadowBlock (Some end_block) (Some end_block)
  end_shadow = record { forth = λ s t to st m. absurd m; back = λ s t' to st m. absurd m; ends = refl }

  pub shadow_at : (bs cs : List BlockTree) (k : ℕ) → AreShadowBlocks bs cs → IsShadowBlock (slice_get bs k) (slice_get cs k)
  shadow_at [] [] k h = none_shadow
  shadow_at [] (c ∷ cs) k h = absurd h
  shadow_at (b ∷ bs) [] k h = absurd h
  shadow_at (b ∷ bs) (c ∷ cs) zero h = h.0
  shadow_at (b ∷ bs) (c ∷ cs) (suc k) h = shadow_at bs cs k h.1

  always_true : (f : Proposition) → is_always f ≡ true → (s : State) → holds_at f s ≡ true
  always_true (truth b) h s = h
  always_true (negation f) h s = cc h
  always_true (connected c f g) h s = cc h
  always_true (compared c a b) h s = cc h

  module _ (own : ℕ) where
    -- it has as many blocks
    mutual
      pub blocks_same : (s : Statement) → count_of (without erased own s) ≡ count_of s
      blocks_same (skip row) = refl
      blocks_same (assign row a) = by_flag (is_erased erased a.target)
        where
          by_flag : (b : Bool) → count_of (cond b (skip row) (assign row (renamed_assignment erased a))) ≡ 1
          by_flag true = refl
          by_flag false = refl
      blocks_same (await row b act) = by_list (kept_assignments erased act)
        where
          by_test : (c : Bool) → count_of (cond c (skip row) (await row (renamed_formula erased b) (record { target = own; value = word own } ∷ []))) ≡ 1
          by_test true = refl
          by_test false = refl

          by_list : (kept : List Assignment) → count_of (awaiting own row (renamed_formula erased b) kept) ≡ 1
          by_list [] = by_test (is_always (renamed_formula erased b))
          by_list (a ∷ kept) = refl
      blocks_same (sequence row s items) = let h = blocks_same s in let k = items_same items in omega (arith, h, k)
      blocks_same (branch row b s t) = let h = blocks_same s in let k = blocks_same t in omega (arith, h, k)
      blocks_same (loop row b s) = ap suc (blocks_same s)

      items_same : (items : Items) → count_of_items (items_without erased own items) ≡ count_of_items items
      items_same (one s) = blocks_same s
      items_same (more s items) = let h = blocks_same s in let k = items_same items in omega (arith, h, k)

    await_code : (row first next : ℕ) (b : Proposition) (act : List Assignment) → IsTypedAction words act → Keeps act (kept_assignments erased act) → ((s : State) → holds_at (renamed_formula erased b) (staying erased s) ≡ holds_at b s) → AreShadowBlocks (code_of (await row b act) first next) (code_of (awaiting own row (renamed_formula erased b) (kept_assignments erased act)) first next)
    await_code row first next b act typed keep same = by_list (kept_assignments erased act) keep
      where
        by_test : (c : Bool) → is_always (renamed_formula erased b) ≡ c → Keeps act [] → AreShadowBlocks (code_of (await row b act) first next) (code_of (cond c (skip row) (await row (renamed_formula erased b) (record { target = own; value = word own } ∷ []))) first next)
        by_test true e none = (skip_shadow row next b act typed none (λ s. sym (same s) ∙ always_true (renamed_formula erased b) e (staying erased s)), tt)
        by_test false e none = (await_shadow row next b (renamed_formula erased b) act (record { target = own; value = word own } ∷ []) typed (keeps_own own act none) same, tt)

        by_list : (kept : List Assignment) → Keeps act kept → AreShadowBlocks (code_of (await row b act) first next) (code_of (awaiting own row (renamed_formula erased b) kept) first next)
        by_list [] keep = by_test (is_always (renamed_formula erased b)) refl keep
        by_list (a ∷ kept) keep = (await_shadow row next b (renamed_formula erased b) act (a ∷ kept) typed keep same, tt)

    mutual
      code_shadow : (s : Statement) (first next : ℕ) → read_in erased s ≡ None → IsTypedStatement words s → AreShadowBlocks (code_of s first next) (code_of (without erased own s) first next)
      code_shadow (skip row) first next n t = (do_shadow row next [] [] (tt, tt, tt) (λ s. refl), tt)
      code_shadow (assign row a) first next n t = by_flag (is_erased erased a.target) refl (keeps (a ∷ []) (map_none (Read row) _ n))
        where
          by_flag : (b : Bool) → is_erased erased a.target ≡ b → Keeps (a ∷ []) (kept_assignments erased (a ∷ [])) → AreShadowBlocks (code_of (assign row a) first next) (code_of (cond b (skip row) (assign row (renamed_assignment erased a))) first next)
          by_flag true e keep = (do_shadow row next (a ∷ []) [] t (subst (Keeps (a ∷ [])) (assignment_goes erased a [] e) keep), tt)
          by_flag false e keep = (do_shadow row next (a ∷ []) (renamed_assignment erased a ∷ []) t (subst (Keeps (a ∷ [])) (assignment_stays erased a [] e) keep), tt)
      code_shadow (await row b act) first next n t =
          let h = map_none (Read row) _ n in
          await_code row first next b act t.1 (keeps act (second_none (speaks_of erased erased b) _ h)) (λ s. truth_renamed erased b s s (first_none _ _ h))
      code_shadow (sequence row s items) first next n t =
          let P : ℕ → Type 0 = λ m. AreShadowBlocks (code_of (sequence row s items) first next) (code_of (without erased own s) first (first + m) ++ code_of_items (items_without erased own items) (first + m) next) in
          subst P (sym (blocks_same s))
          (shadows_append (code_of s first (first + count_of s)) (code_of (without erased own s) first (first + count_of s)) (code_of_items items (first + count_of s) next) (code_of_items (items_without erased own items) (first + count_of s) next)
          (code_shadow s first (first + count_of s) (first_none _ _ n) t.0) (items_shadow items (first + count_of s) next (second_none (read_in erased s) _ n) t.1))
      code_shadow (branch row b s u) first next n t =
          let rest = second_none (option_map (Read row) (speaks_of erased erased b)) _ n in
          let quiet = map_none (Read row) _ (first_none _ _ n) in
          let P : ℕ → Type 0 = λ m. AreShadowBlocks (code_of (branch row b s u) first next)
          (test_block row (suc first) (suc first + m) (formula_operations (renamed_formula erased b)) ∷ (code_of (without erased own s) (suc first) next ++ code_of (without erased own u) (suc first + m) next)) in
          subst P (sym (blocks_same s)) (
            test_shadow row (suc first) (suc first + count_of s) b (renamed_formula erased b) (λ x. truth_renamed erased b x x quiet),
            shadows_append (code_of s (suc first) next) (code_of (without erased own s) (suc first) next) (code_of u (suc first + count_of s) next) (code_of (without erased own u) (suc first + count_of s) next)
                (code_shadow s (suc first) next (first_none _ _ rest) t.1) (code_shadow u (suc first + count_of s) next (second_none (read_in erased s) _ rest) t.2),
          )
      code_shadow (loop row b s) first next n t =
          let quiet = map_none (Read row) _ (first_none _ _ n) in (
            test_shadow row (suc first) next b (renamed_formula erased b) (λ x. truth_renamed erased b x x quiet),
            code_shadow s (suc first) first (second_none (option_map (Read row) (speaks_of erased erased b)) _ n) t.1,
          )

      items_shadow : (items : Items) (first next : ℕ) → read_in_items erased items ≡ None → AreTypedItems words items → AreShadowBlocks (code_of_items items first next) (code_of_items (items_without erased own items) first next)
      items_shadow (one s) first next n t = code_shadow s first next n t
      items_shadow (more s items) first next n t =
          let P : ℕ → Type 0 = λ m. AreShadowBlocks (code_of_items (more s items) first next) (code_of (without erased own s) first (first + m) ++ code_of_items (items_without erased own items) (first + m) next) in
          subst P (sym (blocks_same s))
          (shadows_append (code_of s first (first + count_of s)) (code_of (without erased own s) first (first + count_of s)) (code_of_items items (first + count_of s) next) (code_of_items (items_without erased own items) (first + count_of s) next)
          (code_shadow s first (first + count_of s) (first_none _ _ n) t.0) (items_shadow items (first + count_of s) next (second_none (read_in erased s) _ n) t.1))

    part_shadow : (s : Statement) → read_in erased s ≡ None → IsTypedStatement words s → AreShadowBlocks (part_code s) (part_code (without erased own s))
    part_shadow s n t =
        let P : ℕ → Type 0 = λ m. AreShadowBlocks (part_code s) (code_of (without erased own s) 0 m ++ end_block ∷ []) in
        subst P (sym (blocks_same s))
        (shadows_append (code_of s 0 (count_of s)) (code_of (without erased own s) 0 (count_of s)) (end_block ∷ []) (end_block ∷ []) (code_shadow s 0 (count_of s) n t) (end_shadow, tt))

    -- part by part
    abbrev pub AreShadowCodes : List (List BlockTree) → List (List BlockTree) → Type 0
    AreShadowCodes [] [] = Unit {0}
    AreShadowCodes (c ∷ cs) (d ∷ ds) = AreShadowBlocks c d × AreShadowCodes cs ds
    AreShadowCodes _ _ = ⊥

    pub program_shadow : (ps : List PartTree) → read_in_parts erased ps ≡ None → AreTypedParts words ps → AreShadowCodes (program_code ps) (program_code (map (part_without erased own) ps))
    program_shadow [] n t = tt
    program_shadow (p ∷ ps) n t =
        (part_shadow p.body (first_none _ _ n) t.1, program_shadow ps (second_none (read_in erased p.body) _ n) t.2)
