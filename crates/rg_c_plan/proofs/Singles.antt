-- A step that is one access makes at most one access to an atomic word in each state.
use Rattle.std.proofs.Common.{◌≡◌, ◌∙◌, ℕ, ◌+◌, ◌≤◌, Bool, true, false, not, ◌&&◌, ◌||◌, nat_eq, cond, List, [], ◌∷◌, Option, Some, None, refl, ap, sym, arith}
use Rattle.std.specs.Prelude.{slice_set, if◌then◌else◌}
use Rattle.std.specs.List.{list_any}
use Rattle.std.specs.Option.{option_map_or}
use Rattle.std.proofs.lemmas.Bool.{true≢false, or_parts, or_from, and_parts, not-true, eqb-true}
use Rattle.rg_words.specs.declared.operators.Comparison.TheVariants.{Equal, NotEqual, Less, LessOrEqual, Greater, GreaterOrEqual}
use Rattle.rg_tree.specs.Trees.{Expression, Proposition, Assignment, number, word, next_word, inverse, binary, shifted, choice, truth, negation, connected, compared}
use Rattle.rg_tree.specs.Meaning.{value_of, holds}
use Rattle.rg_tree.specs.Traces.{State}
use Rattle.rg_c_plan.specs.Changes.{change_of}
use Rattle.rg_c_plan.specs.Accesses.{stands_in}
use Rattle.rg_c_plan.specs.Ways.{kind_at, is_atomic}
use Rattle.rg_c_plan.specs.Once.{reads_atomic, tests_atomic, reads_twice, tests_twice, guard_reads, guard_reads_twice, stores, accesses_atomic, accesses_twice, some_access, more_accesses, is_exposed_twice, IndexTree, index_by, index_of, is_index, stores_at_place, is_chosen_store, are_chosen, is_steady, first_index, is_chosen}
use Rattle.rg_c_plan.specs.Made.{reads_made, tests_made, tested_made, change_made, changes_made, step_made}
use Rattle.rg_c_plan.specs.declared.kind.Kind.{Kind}
use Rattle.rg_c_plan.proofs.Indices.{same_index, value_stays}

-- how many there are: none where a test fails, and never more than one
record Counted (p : Bool) (n : ℕ) : Type 0 where
  none : p ≡ false → n ≡ 0
  most : n ≤ 1

-- two counts, not both of which are
both : (p q : Bool) (m n : ℕ) → Counted p m → Counted q n → (p && q) ≡ false → Counted (p || q) (m + n)
both true true m n x y h = cc h
both true false m n x y h = record { none = λ e. cc e; most = let z = y.none refl in let l = x.most in omega (arith, z, l) }
both false q m n x y h = record {
  none = λ e. let z = x.none refl in let u = y.none e in omega (arith, z, u);
  most = let z = x.none refl in let l = y.most in omega (arith, z, l);
}

-- one of two
one_of : (t p q : Bool) (m n : ℕ) → Counted p m → Counted q n → Counted (p || q) (cond t m n)
one_of true p q m n x y = record { none = λ e. x.none (or_parts p q e).0; most = x.most }
one_of false p q m n x y = record { none = λ e. y.none (or_parts p q e).1; most = y.most }

one_or_none : (t p : Bool) (m : ℕ) → Counted p m → Counted p (cond t m 0)
one_or_none true p m x = x
one_or_none false p m x = record { none = λ e. refl; most = omega arith }

no_count : (p : Bool) → Counted p 0
no_count p = record { none = λ e. refl; most = omega arith }

count_if : (p : Bool) → Counted p (if p then 1 else 0)
count_if true = record { none = λ e. cc e; most = omega arith }
count_if false = no_count false

no_store : (p : Bool) → p ≡ false → ◌≡◌ {A = ℕ} (if p then 1 else 0) 0
no_store p e = (count_if p).none e

-- what comes after a test that reads nothing
after_test : (t : Bool) (z r n : ℕ) → z ≡ 0 → r ≡ 0 → z + cond t (r + n) 0 ≡ cond t n 0
after_test true z r n e f = omega (arith, e, f)
after_test false z r n e f = omega (arith, e)

module _ (kinds : List Kind) where
  mutual
    read_once : (s : State) (e : Expression) → reads_twice kinds e ≡ false → Counted (reads_atomic kinds e) (reads_made kinds s e)
    read_once s (number w n) h = no_count false
    read_once s (word k) h = count_if (is_atomic (kind_at kinds k))
    read_once s (next_word k) h = count_if (is_atomic (kind_at kinds k))
    read_once s (inverse w a) h = read_once s a h
    read_once s (binary o w a b) h =
        let parts = or_parts (reads_twice kinds a || reads_twice kinds b) (reads_atomic kinds a && reads_atomic kinds b) h in
        let sides = or_parts (reads_twice kinds a) (reads_twice kinds b) parts.0 in
        both (reads_atomic kinds a) (reads_atomic kinds b) (reads_made kinds s a) (reads_made kinds s b) (read_once s a sides.0) (read_once s b sides.1) parts.1
    read_once s (shifted d w a n) h = read_once s a h
    read_once s (choice f a b) h =
        let parts = or_parts (tests_twice kinds f || (reads_twice kinds a || reads_twice kinds b)) (tests_atomic kinds f && (reads_atomic kinds a || reads_atomic kinds b)) h in
        let heads = or_parts (tests_twice kinds f) (reads_twice kinds a || reads_twice kinds b) parts.0 in
        let sides = or_parts (reads_twice kinds a) (reads_twice kinds b) heads.1 in
        both (tests_atomic kinds f) (reads_atomic kinds a || reads_atomic kinds b) (tests_made kinds s f) (cond (holds f s s) (reads_made kinds s a) (reads_made kinds s b))
        (test_once s f heads.0)
        (one_of (holds f s s) (reads_atomic kinds a) (reads_atomic kinds b) (reads_made kinds s a) (reads_made kinds s b) (read_once s a sides.0) (read_once s b sides.1))
        parts.1

    test_once : (s : State) (f : Proposition) → tests_twice kinds f ≡ false → Counted (tests_atomic kinds f) (tests_made kinds s f)
    test_once s (truth b) h = no_count false
    test_once s (negation f) h = test_once s f h
    test_once s (connected c f g) h =
        let parts = or_parts (tests_twice kinds f || tests_twice kinds g) (tests_atomic kinds f && tests_atomic kinds g) h in
        let sides = or_parts (tests_twice kinds f) (tests_twice kinds g) parts.0 in
        both (tests_atomic kinds f) (tests_atomic kinds g) (tests_made kinds s f) (tests_made kinds s g) (test_once s f sides.0) (test_once s g sides.1) parts.1
    test_once s (compared c a b) h =
        let parts = or_parts (reads_twice kinds a || reads_twice kinds b) (reads_atomic kinds a && reads_atomic kinds b) h in
        let sides = or_parts (reads_twice kinds a) (reads_twice kinds b) parts.0 in
        both (reads_atomic kinds a) (reads_atomic kinds b) (reads_made kinds s a) (reads_made kinds s b) (read_once s a sides.0) (read_once s b sides.1) parts.1

  -- where no atomic word stands in it, its evaluation reads none
  mutual
    never_twice : (e : Expression) → reads_atomic kinds e ≡ false → reads_twice kinds e ≡ false
    never_twice (number w n) h = refl
    never_twice (word k) h = refl
    never_twice (next_word k) h = refl
    never_twice (inverse w a) h = never_twice a h
    never_twice (binary o w a b) h =
        let parts = or_parts (reads_atomic kinds a) (reads_atomic kinds b) h in
        rw (never_twice a parts.0, never_twice b parts.1, parts.0) refl
    never_twice (shifted d w a n) h = never_twice a h
    never_twice (choice f a b) h =
        let parts = or_parts (tests_atomic kinds f) (reads_atomic kinds a || reads_atomic kinds b) h in
        let sides = or_parts (reads_atomic kinds a) (reads_atomic kinds b) parts.1 in
        rw (never_tested_twice f parts.0, never_twice a sides.0, never_twice b sides.1, parts.0) refl

    never_tested_twice : (f : Proposition) → tests_atomic kinds f ≡ false → tests_twice kinds f ≡ false
    never_tested_twice (truth b) h = refl
    never_tested_twice (negation f) h = never_tested_twice f h
    never_tested_twice (connected c f g) h =
        let parts = or_parts (tests_atomic kinds f) (tests_atomic kinds g) h in
        rw (never_tested_twice f parts.0, never_tested_twice g parts.1, parts.0) refl
    never_tested_twice (compared c a b) h =
        let parts = or_parts (reads_atomic kinds a) (reads_atomic kinds b) h in
        rw (never_twice a parts.0, never_twice b parts.1, parts.0) refl

  unread : (s : State) (e : Expression) → reads_atomic kinds e ≡ false → reads_made kinds s e ≡ 0
  unread s e h = (read_once s e (never_twice e h)).none h

  untested : (s : State) (f : Proposition) → tests_atomic kinds f ≡ false → tests_made kinds s f ≡ 0
  untested s f h = (test_once s f (never_tested_twice f h)).none h

  -- a test, and what comes after it where it holds
  tested : (s : State) (test : Option Proposition) (q : Bool) (n : ℕ) → guard_reads_twice kinds test ≡ false → Counted q n → (guard_reads kinds test && q) ≡ false →
      Counted (guard_reads kinds test || q) (tested_made kinds s test n)
  tested s None q n h y apart = y
  tested s (Some f) q n h y apart = both (tests_atomic kinds f) q (tests_made kinds s f) (cond (holds f s s) n 0) (test_once s f h) (one_or_none (holds f s s) q n y) apart

  change_once : (s : State) (a : Assignment) → accesses_twice kinds a ≡ false → Counted (accesses_atomic kinds a) (change_made kinds s a)
  change_once s a h =
      let g = guard_reads kinds (change_of a).test in
      let r = reads_atomic kinds (change_of a).value in
      let w = stores kinds a in
      let parts = or_parts (guard_reads_twice kinds (change_of a).test || reads_twice kinds (change_of a).value) ((g && (r || w)) || (r && w)) h in
      let heads = or_parts (guard_reads_twice kinds (change_of a).test) (reads_twice kinds (change_of a).value) parts.0 in
      let pairs = or_parts (g && (r || w)) (r && w) parts.1 in
      tested s (change_of a).test (r || w) (reads_made kinds s (change_of a).value + (if w then 1 else 0)) heads.0
      (both r w (reads_made kinds s (change_of a).value) (if w then 1 else 0) (read_once s (change_of a).value heads.1) (count_if w) pairs.1)
      pairs.0

  changes_once : (s : State) (act : List Assignment) → more_accesses kinds act ≡ false → Counted (some_access kinds act) (changes_made kinds s act)
  changes_once s [] h = no_count false
  changes_once s (a ∷ act) h =
      let parts = or_parts (accesses_twice kinds a) ((accesses_atomic kinds a && some_access kinds act) || more_accesses kinds act) h in
      let rest = or_parts (accesses_atomic kinds a && some_access kinds act) (more_accesses kinds act) parts.1 in
      let next = slice_set s a.target (value_of a.value s s) in
      both (accesses_atomic kinds a) (some_access kinds act) (change_made kinds s a) (changes_made kinds next act) (change_once s a parts.0) (changes_once next act rest.1) rest.0

  pub step_once : (s : State) (guard : Option Proposition) (act : List Assignment) → is_exposed_twice kinds guard act ≡ false → step_made kinds s guard act ≤ 1
  step_once s guard act h =
      let parts = or_parts (guard_reads_twice kinds guard) (more_accesses kinds act || (guard_reads kinds guard && some_access kinds act)) h in
      let rest = or_parts (more_accesses kinds act) (guard_reads kinds guard && some_access kinds act) parts.1 in
      (tested s guard (some_access kinds act) (changes_made kinds s act) parts.0 (changes_once s act rest.0) rest.1).most

  -- an assignment that makes no access
  untouched : (s : State) (a : Assignment) → accesses_atomic kinds a ≡ false → change_made kinds s a ≡ 0
  untouched s a h =
      let parts = or_parts (guard_reads kinds (change_of a).test) (reads_atomic kinds (change_of a).value || stores kinds a) h in
      let rest = or_parts (reads_atomic kinds (change_of a).value) (stores kinds a) parts.1 in
      by (change_of a).test parts.0 (unread s (change_of a).value rest.0) rest.1
    where
      by : (test : Option Proposition) → guard_reads kinds test ≡ false → reads_made kinds s (change_of a).value ≡ 0 → stores kinds a ≡ false →
          tested_made kinds s test (reads_made kinds s (change_of a).value + (if stores kinds a then 1 else 0)) ≡ 0
      by None g r w = let z = no_store (stores kinds a) w in omega (arith, r, z)
      by (Some f) g r w = nothing (holds f s s) (untested s f g) (no_store (stores kinds a) w)
        where
          nothing : (t : Bool) → tests_made kinds s f ≡ 0 → ◌≡◌ {A = ℕ} (if stores kinds a then 1 else 0) 0 → tests_made kinds s f + cond t (reads_made kinds s (change_of a).value + (if stores kinds a then 1 else 0)) 0 ≡ 0
          nothing true q z = omega (arith, q, r, z)
          nothing false q z = omega (arith, q)

-- the test of an index says that it is its number
record IsEquation (f : Proposition) (i : IndexTree) : Type 0 where
  width : ℕ
  is : f ≡ compared Equal i.index (number width i.place)

equation : (f : Proposition) (i : IndexTree) → index_by f ≡ Some i → IsEquation f i
equation (truth b) i h = cc h
equation (negation f) i h = cc h
equation (connected c f g) i h = cc h
equation (compared Equal e (number w n)) i h =
    let same : (let j : IndexTree = record { index = e; place = n } in j) ≡ i = cc h in
    record { width = w; is = ap (λ (j : IndexTree). compared Equal j.index (number w j.place)) same }
equation (compared Equal e (word k)) i h = cc h
equation (compared Equal e (next_word k)) i h = cc h
equation (compared Equal e (inverse w a)) i h = cc h
equation (compared Equal e (binary o w a b)) i h = cc h
equation (compared Equal e (shifted d w a n)) i h = cc h
equation (compared Equal e (choice f a b)) i h = cc h
equation (compared NotEqual e b) i h = cc h
equation (compared Less e b) i h = cc h
equation (compared LessOrEqual e b) i h = cc h
equation (compared Greater e b) i h = cc h
equation (compared GreaterOrEqual e b) i h = cc h

module _ (kinds : List Kind) (e : Expression) (steady : reads_atomic kinds e ≡ false) where
  -- a store at an index is made where the index is its number
  store_made : (s : State) (a : Assignment) (i : IndexTree) → index_of a ≡ Some i → e ≡ i.index → reads_atomic kinds (change_of a).value ≡ false →
      change_made kinds s a ≡ cond (nat_eq (value_of e s s) i.place) (if stores kinds a then 1 else 0) 0
  store_made s a i h same r = by (change_of a).test h (unread kinds s (change_of a).value r)
    where
      by : (test : Option Proposition) → option_map_or index_by test None ≡ Some i → reads_made kinds s (change_of a).value ≡ 0 →
          tested_made kinds s test (reads_made kinds s (change_of a).value + (if stores kinds a then 1 else 0)) ≡ cond (nat_eq (value_of e s s) i.place) (if stores kinds a then 1 else 0) 0
      by None h r = cc h
      by (Some f) h r =
          let eq = equation f i h in
          let quiet : tests_made kinds s (compared Equal e (number eq.width i.place)) ≡ 0 = untested kinds s (compared Equal e (number eq.width i.place)) (or_from (reads_atomic kinds e) false steady refl) in
          let is : f ≡ compared Equal e (number eq.width i.place) = eq.is ∙ ap (λ d. compared Equal d (number eq.width i.place)) (sym same) in
          ap (λ g. tested_made kinds s (Some g) (reads_made kinds s (change_of a).value + (if stores kinds a then 1 else 0))) is
          ∙ after_test (nat_eq (value_of e s s) i.place) (tests_made kinds s (compared Equal e (number eq.width i.place))) (reads_made kinds s (change_of a).value) (if stores kinds a then 1 else 0) quiet r

  -- such stores are one at most, and none where no place is the index's value
  record Chosen (s : State) (act : List Assignment) : Type 0 where
    most : changes_made kinds s act ≤ 1
    none : list_any (stores_at_place kinds (value_of e s s)) act ≡ false → changes_made kinds s act ≡ 0

  one_more : (s : State) (a : Assignment) (act : List Assignment) → stands_in a.target e ≡ false → (not (accesses_atomic kinds a) || is_chosen_store kinds e a act) ≡ true →
      Chosen (slice_set s a.target (value_of a.value s s)) act → Chosen s (a ∷ act)
  one_more s a act away first rest = by (accesses_atomic kinds a) refl first
    where
      next : State
      next = slice_set s a.target (value_of a.value s s)

      stays : value_of e next next ≡ value_of e s s
      stays = value_stays s a.target (value_of a.value s s) e away

      none_after : list_any (stores_at_place kinds (value_of e s s)) act ≡ false → changes_made kinds next act ≡ 0
      none_after n = rest.none (ap (λ v. list_any (stores_at_place kinds v) act) stays ∙ n)

      later : (n : ℕ) → list_any (stores_at_place kinds n) (a ∷ act) ≡ false → list_any (stores_at_place kinds n) act ≡ false
      later n x = (or_parts (stores_at_place kinds n a) (list_any (stores_at_place kinds n) act) x).1

      at_index : (i : IndexTree) → index_of a ≡ Some i → accesses_atomic kinds a ≡ true → e ≡ i.index → reads_atomic kinds (change_of a).value ≡ false →
          list_any (stores_at_place kinds i.place) act ≡ false → Chosen s (a ∷ act)
      at_index i x made same r alone = by_value (nat_eq (value_of e s s) i.place) refl (store_made s a i x same r)
        where
          by_value : (t : Bool) → nat_eq (value_of e s s) i.place ≡ t → change_made kinds s a ≡ cond t (if stores kinds a then 1 else 0) 0 → Chosen s (a ∷ act)
          by_value true eq m =
              let l = (count_if (stores kinds a)).most in
              let z = none_after (ap (λ v. list_any (stores_at_place kinds v) act) (eqb-true (value_of e s s) i.place eq) ∙ alone) in
              record {
                most = omega (arith, m, l, z);
                none = λ n.
                    let here = (or_parts (stores_at_place kinds (value_of e s s) a) (list_any (stores_at_place kinds (value_of e s s)) act) n).0 in
                    let is : stores_at_place kinds (value_of e s s) a ≡ true = rw (made, x, eq) refl in
                    absurd (true≢false (sym is ∙ here));
              }
          by_value false eq m =
              let l = rest.most in
              record { most = omega (arith, m, l); none = λ n. let z = none_after (later (value_of e s s) n) in omega (arith, m, z) }

      by_index : (o : Option IndexTree) → index_of a ≡ o → accesses_atomic kinds a ≡ true →
          option_map_or (λ (i : IndexTree). (is_index e i.index && not (reads_atomic kinds (change_of a).value)) && not (list_any (stores_at_place kinds i.place) act)) o false ≡ true → Chosen s (a ∷ act)
      by_index None x made c = cc c
      by_index (Some i) x made c =
          let parts = and_parts (is_index e i.index && not (reads_atomic kinds (change_of a).value)) (not (list_any (stores_at_place kinds i.place) act)) c in
          let heads = and_parts (is_index e i.index) (not (reads_atomic kinds (change_of a).value)) parts.0 in
          at_index i x made (same_index e i.index heads.0) (not-true (reads_atomic kinds (change_of a).value) heads.1) (not-true (list_any (stores_at_place kinds i.place) act) parts.1)

      by : (b : Bool) → accesses_atomic kinds a ≡ b → (not b || is_chosen_store kinds e a act) ≡ true → Chosen s (a ∷ act)
      by true made c = by_index (index_of a) refl made c
      by false quiet c =
          let m = untouched kinds s a quiet in
          let l = rest.most in
          record { most = omega (arith, m, l); none = λ n. let z = none_after (later (value_of e s s) n) in omega (arith, m, z) }

  chosen_once : (s : State) (act : List Assignment) → list_any (λ a. stands_in a.target e) act ≡ false → are_chosen kinds e act ≡ true → Chosen s act
  chosen_once s [] free h = record { most = omega arith; none = λ n. refl }
  chosen_once s (a ∷ act) free h =
      let away = or_parts (stands_in a.target e) (list_any (λ (b : Assignment). stands_in b.target e) act) free in
      let first = and_parts (not (accesses_atomic kinds a) || is_chosen_store kinds e a act) (are_chosen kinds e act) h in
      one_more s a act away.0 first.0 (chosen_once (slice_set s a.target (value_of a.value s s)) act away.1 first.1)

module _ (kinds : List Kind) where
  -- a test that reads no atomic word, and what comes after it
  quiet_test : (s : State) (guard : Option Proposition) (n : ℕ) → guard_reads kinds guard ≡ false → n ≤ 1 → tested_made kinds s guard n ≤ 1
  quiet_test s None n h l = l
  quiet_test s (Some f) n h l = by (holds f s s) (untested kinds s f h)
    where
      by : (t : Bool) → tests_made kinds s f ≡ 0 → tests_made kinds s f + cond t n 0 ≤ 1
      by true z = omega (arith, z, l)
      by false z = omega (arith, z)

  pub chosen_step_once : (s : State) (guard : Option Proposition) (act : List Assignment) → is_chosen kinds guard act ≡ true → step_made kinds s guard act ≤ 1
  chosen_step_once s guard act h =
      let parts = and_parts (not (guard_reads kinds guard)) (option_map_or (λ (i : IndexTree). is_steady kinds i.index act && are_chosen kinds i.index act) (first_index kinds act) false) h in
      quiet_test s guard (changes_made kinds s act) (not-true (guard_reads kinds guard) parts.0) (by (first_index kinds act) parts.1)
    where
      by : (o : Option IndexTree) → option_map_or (λ (i : IndexTree). is_steady kinds i.index act && are_chosen kinds i.index act) o false ≡ true → changes_made kinds s act ≤ 1
      by None c = cc c
      by (Some i) c =
          let parts = and_parts (is_steady kinds i.index act) (are_chosen kinds i.index act) c in
          let steady = and_parts (not (reads_atomic kinds i.index)) (not (list_any (λ (a : Assignment). stands_in a.target i.index) act)) parts.0 in
          (chosen_once kinds i.index (not-true (reads_atomic kinds i.index) steady.0) s act (not-true (list_any (λ (a : Assignment). stands_in a.target i.index) act) steady.1) parts.1).most
