-- What is left of a program is a program.
use Rattle.std.proofs.Common.{◌≡◌, ℕ, suc, ◌≤◌, ◌<◌, Bool, true, false, List, [], ◌∷◌, cond, length, map, get_or, Option, Some, None, refl, sym, ap, ◌∙◌, subst, arith, length-append}
use Rattle.std.specs.Prelude.{slice_index, option_map}
use Rattle.std.proofs.lemmas.List.{length-map}
use Rattle.rg_words.specs.Layout.{Word, widths_of, fixed_of}
use Rattle.rg_words.specs.declared.limits.TheConstants.{MOST_ASSIGNMENTS}
use Rattle.rg_tree.specs.Trees.{Proposition, Assignment, word}
use Rattle.rg_tree.specs.Typing.{HasWidth, IsTyped}
use Rattle.rg_tree.specs.ConditionTrees.{AssignmentsTyped}
use Rattle.rg_tree.specs.Statements.{Statement, skip, assign, await, sequence, branch, loop, Items, one, more, Specification, PartTree, ProgramTree}
use Rattle.rg_tree.specs.Numbering.{statements, statements_of_items, statements_of_parts}
use Rattle.rg_tree.specs.TypedPrograms.{IsTypedPredicate, TargetsFree, ValuesPlain, IsTypedAction, IsTypedStatement, AreTypedItems, IsTypedSpecification, AreTypedParts, IsTypedProgram}
use Rattle.rg_erase.specs.Erased.{staying, new_place, is_erased, speaks_of, mentions, renamed, renamed_formula, renamed_assignment, kept_assignments, is_always, awaiting, without, items_without, kept, kept_specification, part_without, erased_program, first_free}
use Rattle.rg_erase.specs.Faults.{values_mention, read_in, read_in_items, read_in_parts}
use Rattle.rg_erase.specs.declared.fault.Fault.TheVariants.{Read}
use Rattle.rg_erase.proofs.States.{staying_map, staying_at, place_within}
use Rattle.rg_erase.proofs.Mentions.{first_none, second_none, width_renamed, typed_renamed, primes_renamed, primes_renamed_formula}
use Rattle.rg_erase.proofs.Conjunctions.{kept_typed, kept_plain}

pub map_none : {A B : Type 0} (f : A → B) (o : Option A) → option_map f o ≡ None → o ≡ None
map_none f None h = refl
map_none f (Some x) h = cc h

module _ (erased : List Bool) where
  -- what is kept of assignments: by the first
  pub assignment_stays : (a : Assignment) (act : List Assignment) → is_erased erased a.target ≡ false → kept_assignments erased (a ∷ act) ≡ renamed_assignment erased a ∷ kept_assignments erased act
  assignment_stays a act h = rw h refl

  pub assignment_goes : (a : Assignment) (act : List Assignment) → is_erased erased a.target ≡ true → kept_assignments erased (a ∷ act) ≡ kept_assignments erased act
  assignment_goes a act h = rw h refl

  -- its value mentions no erased word
  pub value_mentions : (a : Assignment) (act : List Assignment) → is_erased erased a.target ≡ false → values_mention erased (a ∷ act) ≡ None → mentions erased erased a.value ≡ None
  value_mentions a act h n =
      let first : cond (is_erased erased a.target) None (mentions erased erased a.value) ≡ None = first_none _ (values_mention erased act) n in
      sym (ap (λ b. cond b None (mentions erased erased a.value)) h) ∙ first

  pub rest_mention : (a : Assignment) (act : List Assignment) → values_mention erased (a ∷ act) ≡ None → values_mention erased act ≡ None
  rest_mention a act n = second_none (cond (is_erased erased a.target) None (mentions erased erased a.value)) _ n

  kept_shorter : (act : List Assignment) → length (kept_assignments erased act) ≤ length act
  kept_shorter [] = omega arith
  kept_shorter (a ∷ act) = by_flag (is_erased erased a.target) refl (kept_shorter act)
    where
      by_flag : (b : Bool) → is_erased erased a.target ≡ b → length (kept_assignments erased act) ≤ length act → length (kept_assignments erased (a ∷ act)) ≤ suc (length act)
      by_flag true e h = let size = ap (λ (xs : List Assignment). length xs) (assignment_goes a act e) in omega (arith, size, h)
      by_flag false e h = let size = ap (λ (xs : List Assignment). length xs) (assignment_stays a act e) in omega (arith, size, h)

  module _ (words : List Word) where
    abbrev left_words : List Word
    left_words = staying erased words

    widths_left : staying erased (widths_of words) ≡ widths_of left_words
    widths_left = staying_map (λ w. w.width) erased words

    fixed_left : staying erased (fixed_of words) ≡ fixed_of left_words
    fixed_left = staying_map (λ w. w.fixed) erased words

    assignments_typed : (act : List Assignment) → values_mention erased act ≡ None → AssignmentsTyped (widths_of words) act → AssignmentsTyped (staying erased (widths_of words)) (kept_assignments erased act)
    assignments_typed [] n t = tt
    assignments_typed (a ∷ act) n t = by_flag (is_erased erased a.target) refl (assignments_typed act (rest_mention a act n) t.2)
      where
        by_flag : (b : Bool) → is_erased erased a.target ≡ b → AssignmentsTyped (staying erased (widths_of words)) (kept_assignments erased act) → AssignmentsTyped (staying erased (widths_of words)) (kept_assignments erased (a ∷ act))
        by_flag true e h = subst (AssignmentsTyped (staying erased (widths_of words))) (sym (assignment_goes a act e)) h
        by_flag false e h =
            let value = width_renamed erased (widths_of words) a.value (slice_index (widths_of words) a.target) (value_mentions a act e n) t.1 in
            subst (AssignmentsTyped (staying erased (widths_of words))) (sym (assignment_stays a act e)) (
              place_within erased (widths_of words) a.target e t.0,
              subst (HasWidth (staying erased (widths_of words)) (renamed erased a.value)) (sym (staying_at erased (widths_of words) a.target 0 e)) value,
              h,
            )

    targets_free : (act : List Assignment) → TargetsFree words act → TargetsFree left_words (kept_assignments erased act)
    targets_free [] t = tt
    targets_free (a ∷ act) t = by_flag (is_erased erased a.target) refl (targets_free act t.1)
      where
        by_flag : (b : Bool) → is_erased erased a.target ≡ b → TargetsFree left_words (kept_assignments erased act) → TargetsFree left_words (kept_assignments erased (a ∷ act))
        by_flag true e h = subst (TargetsFree left_words) (sym (assignment_goes a act e)) h
        by_flag false e h =
            subst (TargetsFree left_words) (sym (assignment_stays a act e))
            (ap (λ (fs : List Bool). get_or fs (new_place erased a.target) false) (sym fixed_left) ∙ staying_at erased (fixed_of words) a.target false e ∙ t.0, h)

    values_plain : (act : List Assignment) → ValuesPlain act → ValuesPlain (kept_assignments erased act)
    values_plain [] t = tt
    values_plain (a ∷ act) t = by_flag (is_erased erased a.target) refl (values_plain act t.1)
      where
        by_flag : (b : Bool) → is_erased erased a.target ≡ b → ValuesPlain (kept_assignments erased act) → ValuesPlain (kept_assignments erased (a ∷ act))
        by_flag true e h = subst ValuesPlain (sym (assignment_goes a act e)) h
        by_flag false e h = subst ValuesPlain (sym (assignment_stays a act e)) (primes_renamed erased a.value ∙ t.0, h)

    action_typed : (act : List Assignment) → values_mention erased act ≡ None → IsTypedAction words act → IsTypedAction left_words (kept_assignments erased act)
    action_typed act n t =
        let P : List ℕ → Type 0 = λ ws. AssignmentsTyped ws (kept_assignments erased act) in
        (subst P widths_left (assignments_typed act n t.0), targets_free act t.1, values_plain act t.2)

    pub relation_typed : (f : Proposition) → IsTyped (staying erased (widths_of words)) f → IsTyped (widths_of left_words) f
    relation_typed f t = subst (λ (ws : List ℕ). IsTyped ws f) widths_left t

    predicate_typed : (f : Proposition) → speaks_of erased erased f ≡ None → IsTypedPredicate words f → IsTypedPredicate left_words (renamed_formula erased f)
    predicate_typed f n t =
        (relation_typed (renamed_formula erased f) (typed_renamed erased (widths_of words) f n t.0), primes_renamed_formula erased f ∙ t.1)

    specification_typed : (spec : Specification) → IsTypedSpecification words spec → IsTypedSpecification left_words (kept_specification erased spec)
    specification_typed spec t = (
      (relation_typed (kept erased spec.pre) (kept_typed erased (widths_of words) spec.pre t.0.0), kept_plain erased spec.pre t.0.1),
      relation_typed (kept erased spec.rely) (kept_typed erased (widths_of words) spec.rely t.1),
      relation_typed (kept erased spec.guar) (kept_typed erased (widths_of words) spec.guar t.2),
      (relation_typed (kept erased spec.post) (kept_typed erased (widths_of words) spec.post t.3.0), kept_plain erased spec.post t.3.1),
    )

    module _ (own : ℕ) (own_less : own < length left_words) (own_free : get_or (fixed_of left_words) own false ≡ false) where
      own_typed : IsTypedAction left_words (record { target = own; value = word own } ∷ [])
      own_typed =
          let size = length-map left_words (λ w. w.width) in
          let less : own < length (widths_of left_words) = omega (arith, size, own_less) in
          ((less, (less, refl), tt), (own_free, tt), (refl, tt))

      awaiting_typed : (row : ℕ) (b : Proposition) (act : List Assignment) → IsTypedPredicate left_words b → IsTypedAction left_words act → length act ≤ MOST_ASSIGNMENTS → IsTypedStatement left_words (awaiting own row b act)
      awaiting_typed row b [] t u few = by_test (is_always b)
        where
          by_test : (c : Bool) → IsTypedStatement left_words (cond c (skip row) (await row b (record { target = own; value = word own } ∷ [])))
          by_test true = tt
          by_test false = (t, own_typed, omega arith, omega arith)
      awaiting_typed row b (a ∷ act) t u few = (t, u, omega arith, few)

      mutual
        without_typed : (s : Statement) → read_in erased s ≡ None → IsTypedStatement words s → IsTypedStatement left_words (without erased own s)
        without_typed (skip row) n t = tt
        without_typed (assign row a) n t = by_flag (is_erased erased a.target) refl
          where
            by_flag : (b : Bool) → is_erased erased a.target ≡ b → IsTypedStatement left_words (cond b (skip row) (assign row (renamed_assignment erased a)))
            by_flag true e = tt
            by_flag false e = subst (IsTypedAction left_words) (assignment_stays a [] e) (action_typed (a ∷ []) (map_none (Read row) _ n) t)
        without_typed (await row b act) n t =
            let h = map_none (Read row) _ n in
            let short = kept_shorter act in
            awaiting_typed row (renamed_formula erased b) (kept_assignments erased act) (predicate_typed b (first_none _ _ h) t.0) (action_typed act (second_none (speaks_of erased erased b) _ h) t.1) (omega (arith, short, t.3))
        without_typed (sequence row s items) n t = (without_typed s (first_none _ _ n) t.0, items_typed items (second_none (read_in erased s) _ n) t.1)
        without_typed (branch row b s u) n t =
            let rest = second_none (option_map (Read row) (speaks_of erased erased b)) _ n in
            (predicate_typed b (map_none (Read row) _ (first_none _ _ n)) t.0, without_typed s (first_none _ _ rest) t.1, without_typed u (second_none (read_in erased s) _ rest) t.2)
        without_typed (loop row b s) n t =
            (predicate_typed b (map_none (Read row) _ (first_none _ _ n)) t.0, without_typed s (second_none (option_map (Read row) (speaks_of erased erased b)) _ n) t.1)

        items_typed : (items : Items) → read_in_items erased items ≡ None → AreTypedItems words items → AreTypedItems left_words (items_without erased own items)
        items_typed (one s) n t = without_typed s n t
        items_typed (more s items) n t = (without_typed s (first_none _ _ n) t.0, items_typed items (second_none (read_in erased s) _ n) t.1)

      parts_typed : (ps : List PartTree) → read_in_parts erased ps ≡ None → AreTypedParts words ps → AreTypedParts left_words (map (part_without erased own) ps)
      parts_typed [] n t = tt
      parts_typed (p ∷ ps) n t =
          (specification_typed p.spec t.0, without_typed p.body (first_none _ _ n) t.1, parts_typed ps (second_none (read_in erased p.body) _ n) t.2)

  -- it has as many statements
  awaiting_one : (own row : ℕ) (b : Proposition) (act : List Assignment) → length (statements (awaiting own row b act)) ≡ 1
  awaiting_one own row b [] = by_test (is_always b)
    where
      by_test : (c : Bool) → length (statements (cond c (skip row) (await row b (record { target = own; value = word own } ∷ [])))) ≡ 1
      by_test true = refl
      by_test false = refl
  awaiting_one own row b (a ∷ act) = refl

  module _ (own : ℕ) where
    mutual
      same_count : (s : Statement) → length (statements (without erased own s)) ≡ length (statements s)
      same_count (skip row) = refl
      same_count (assign row a) = by_flag (is_erased erased a.target)
        where
          by_flag : (b : Bool) → length (statements (cond b (skip row) (assign row (renamed_assignment erased a)))) ≡ 1
          by_flag true = refl
          by_flag false = refl
      same_count (await row b act) = awaiting_one own row (renamed_formula erased b) (kept_assignments erased act)
      same_count (sequence row s items) =
          let h = same_count s in
          let k = items_count items in
          omega (arith, h, k, length-append (statements s) (statements_of_items items), length-append (statements (without erased own s)) (statements_of_items (items_without erased own items)))
      same_count (branch row b s t) =
          let h = same_count s in
          let k = same_count t in
          omega (arith, h, k, length-append (statements s) (statements t), length-append (statements (without erased own s)) (statements (without erased own t)))
      same_count (loop row b s) = ap suc (same_count s)

      items_count : (items : Items) → length (statements_of_items (items_without erased own items)) ≡ length (statements_of_items items)
      items_count (one s) = same_count s
      items_count (more s items) =
          let h = same_count s in
          let k = items_count items in
          omega (arith, h, k, length-append (statements s) (statements_of_items items), length-append (statements (without erased own s)) (statements_of_items (items_without erased own items)))

    parts_count : (ps : List PartTree) → length (statements_of_parts (map (part_without erased own) ps)) ≡ length (statements_of_parts ps)
    parts_count [] = refl
    parts_count (p ∷ ps) =
        let h = same_count p.body in
        let k = parts_count ps in
        omega (arith, h, k, length-append (statements p.body) (statements_of_parts ps), length-append (statements (without erased own p.body)) (statements_of_parts (map (part_without erased own) ps)))

  pub program_typed : (p : ProgramTree) → first_free (staying erased p.words) < length (staying erased p.words) → get_or (fixed_of (staying erased p.words)) (first_free (staying erased p.words)) false ≡ false → read_in_parts erased p.parts ≡ None → IsTypedProgram p → IsTypedProgram (erased_program erased p)
  program_typed p own_less own_free n t =
      let own = first_free (staying erased p.words) in
      let size = length-map p.parts (part_without erased own) in
      let count = parts_count own p.parts in
      record {
        spec = specification_typed p.words p.spec t.spec;
        parts = parts_typed p.words own own_less own_free p.parts n t.parts;
        some_part = omega (arith, size, t.some_part);
        most_parts = omega (arith, size, t.most_parts);
        most_statements = omega (arith, count, t.most_statements);
      }
