-- Assignments that are together one store to an item of an array do what it does.
use Rattle.std.proofs.Common.{◌≡◌, ◌∙◌, ℕ, zero, suc, ◌+◌, ◌-◌, ◌%◌, ◌^◌, ◌<◌, ◌≤◌, Bool, true, false, not, ◌&&◌, ◌||◌, cond, nat_eq, List, [], ◌∷◌, length, take, Option, Some, None, inl, inr, refl, ap, sym, subst, arith}
use Rattle.std.specs.Prelude.{nat_lt, slice_index, slice_set, if◌then◌else◌}
use Rattle.std.specs.Option.{option_map_or}
use Rattle.std.proofs.lemmas.Bool.{not-true, and_parts, or_parts, eqb-true, eqb-false, eq-eqb, ne_eqb, lt-ltb, cases_eq, cases_lt}
use Rattle.std.proofs.lemmas.List.{get_or-set_other}
use Rattle.rg_words.specs.Layout.{Word}
use Rattle.rg_words.specs.States.{IsState}
use Rattle.rg_tree.specs.Traces.{State}
use Rattle.rg_c_plan.specs.declared.kind.Kind.{Kind}
use Rattle.rg_c_values.specs.declared.print.Read.{Read}
use Rattle.rg_c_values.specs.CTrees.{CValue, CTest, c_literal, c_word, c_cast, c_inverse, c_binary, c_rest, c_shifted, c_choice, c_truth, c_not, c_joined, c_compared}
use Rattle.rg_c_values.specs.Arithmetic.{c_value, c_holds, c_operated, c_moved, c_is_so, c_joins}
use Rattle.rg_c_values.specs.Arrays.{array_length}
use Rattle.rg_c_values.specs.Items.{is_value, is_at, is_below, read_of}
use Rattle.rg_c_values.proofs.ItemsRight.{same_value, at_is, below, all_at, lt_from}
use Rattle.rg_c.specs.declared.tree.Target.TheVariants.{Word as ToWord}
use Rattle.rg_c.specs.CStatements.{asks, item, CStatement, ◌⨾◌, nothing, writes, stores, when, each}
use Rattle.rg_c.specs.Assigned.{GivenTree, is_stored, given, assigned_to}
use Rattle.rg_c.specs.Used.{value_reads, test_reads}
use Rattle.rg_c.specs.Together.{ItemTree, item_given, item_of, gives_at, gives_from, is_apart, is_together, together, is_local, has_local, StoresAreTogether}
use Rattle.rg_c.specs.Meaning.{Machine, seen, sees, word_set, Outcome, on, waits, next, run}
use Rattle.rg_c.proofs.Locals.{seen_written}
use Rattle.rg_c.proofs.Givens.{word_kept, given_right, then_on}

module _ (s : State) (k x : ℕ) where
  abbrev after : State
  after = slice_set s k x

  mutual
    -- a value that doesn't read a word is the same after the word was changed
    value_stays : (v : CValue) → value_reads k v ≡ false → c_value v after ≡ c_value v s
    value_stays (c_literal n) h = refl
    value_stays (c_word c j) h = get_or-set_other s k j x 0 (λ e. eqb-false _ _ h (sym e))
    value_stays (c_cast n v) h = ap (λ y. y % 2 ^ n) (value_stays v h)
    value_stays (c_inverse g v) h = ap (λ y. 2 ^ g - 1 - y) (value_stays v h)
    value_stays (c_binary o g a b) h =
        let parts = or_parts _ _ h in
        ap (λ y. c_operated o g y (c_value b after)) (value_stays a parts.0) ∙ ap (c_operated o g (c_value a s)) (value_stays b parts.1)
    value_stays (c_rest g v n) h = ap (λ y. y % n) (value_stays v h)
    value_stays (c_shifted d g v j) h = ap (λ y. c_moved d g y j) (value_stays v h)
    value_stays (c_choice t a b) h =
        let parts = or_parts _ _ h in
        let sides = or_parts _ _ parts.1 in
        ap (λ p. cond p (c_value a after) (c_value b after)) (test_stays t parts.0)
        ∙ ap (λ y. cond (c_holds t s) y (c_value b after)) (value_stays a sides.0)
        ∙ ap (cond (c_holds t s) (c_value a s)) (value_stays b sides.1)

    test_stays : (t : CTest) → test_reads k t ≡ false → c_holds t after ≡ c_holds t s
    test_stays (c_truth b) h = refl
    test_stays (c_not t) h = ap not (test_stays t h)
    test_stays (c_joined j t u) h =
        let parts = or_parts _ _ h in
        ap (λ p. c_joins j p (c_holds u after)) (test_stays t parts.0) ∙ ap (c_joins j (c_holds t s)) (test_stays u parts.1)
    test_stays (c_compared c a b) h =
        let parts = or_parts _ _ h in
        ap (λ y. c_is_so c y (c_value b after)) (value_stays a parts.0) ∙ ap (c_is_so c (c_value a s)) (value_stays b parts.1)

or_second : (b c : Bool) → (b || c) ≡ true → b ≡ false → c ≡ true
or_second true c h e = cc e
or_second false c h e = h

module _ (words : List Word) (kinds : List Kind) (reads : List Read) (it : ItemTree) where
  abbrev index : Machine → ℕ
  index m = c_value it.index (sees reads m)

  abbrev value : Machine → ℕ
  value m = c_value it.value (sees reads m)

  -- an assignment of an item is done where the index is its number, and only there
  at_test : (i : ℕ) (t : Option CTest) (c : CStatement) (m : Machine) → option_map_or (is_at it.index i) t false ≡ true →
      run words reads (option_map_or (λ t. when (asks t) c) t c) m ≡ (if nat_eq (index m) i then run words reads c m else on m)
  at_test i None c m q = cc q
  at_test i (Some t) c m q = ap (λ b. if b then run words reads c m else on m) (at_is (sees reads m) it.index i t q)

  -- and gives the value
  abbrev Gives : ℕ → GivenTree → Type 0
  Gives i g = (g.word ≡ it.first + i) × (is_value it.value g.value ≡ true)

  gives : (i : ℕ) (g : GivenTree) → gives_at kinds it i g ≡ true → Gives i g
  gives i g q = let parts = and_parts _ _ (and_parts _ _ (and_parts _ _ q).1).1 in (eqb-true _ _ parts.0, parts.1)

  gives_is : (i : ℕ) (g : GivenTree) (m : Machine) → Gives i g → is_local (read_of reads g.word) ≡ false → run words reads (given kinds ToWord g.word g.value) m ≡ on (word_set m (it.first + i) (value m))
  gives_is i g m q local =
      given_right words kinds reads ToWord g.word g.value m (word_kept reads m g.word local)
      ∙ ap (λ k. on (word_set m k (c_value g.value (sees reads m)))) q.0
      ∙ ap (λ v. on (word_set m (it.first + i) (c_value v (sees reads m)))) (sym (same_value it.value g.value q.1))

  at_index : (i : ℕ) (g : GivenTree) (m : Machine) (b : Bool) → gives_at kinds it i g ≡ true → nat_eq (index m) i ≡ b →
      run words reads (assigned_to kinds ToWord g) m ≡ (if b then run words reads (given kinds ToWord g.word g.value) m else on m)
  at_index i g m b q e = at_test i g.test (given kinds ToWord g.word g.value) m (and_parts _ _ q).0 ∙ ap (λ p. if p then run words reads (given kinds ToWord g.word g.value) m else on m) e

  -- the first of such assignments, and those behind it
  first_gives : (n i : ℕ) (g : GivenTree) (gs : List GivenTree) → i < n → gives_from kinds it n i (g ∷ gs) ≡ true → (gives_at kinds it i g ≡ true) × (gives_from kinds it n (i + 1) gs ≡ true)
  first_gives n i g gs less q = and_parts _ _ (or_second _ _ q (ne_eqb i n (λ e. omega (arith, less, e))))

  -- behind the index nothing is done
  passed : (n r i x : ℕ) (gs : List GivenTree) (m : Machine) → gives_from kinds it n i gs ≡ true → i + r ≡ n → index m ≡ x → x < i → run words reads (each (assigned_to kinds ToWord) (take r gs)) m ≡ on m
  passed n zero i x gs m q size is less = refl
  passed n (suc r) i x [] m q size is less = absurd (omega (arith, size, eqb-true _ _ q))
  passed n (suc r) i x (g ∷ gs) m q size is less =
      let parts = first_gives n i g gs (omega (arith, size)) q in
      let none = at_index i g m false parts.0 (ap (λ y. nat_eq y i) is ∙ ne_eqb x i (λ e. omega (arith, less, e))) in
      then_on _ none
      ∙ passed n r (i + 1) x gs m parts.1 (omega (arith, size)) is (omega (arith, less))

  -- and at it the value is given
  reached : (n r i x : ℕ) (gs : List GivenTree) (m : Machine) → gives_from kinds it n i gs ≡ true → i + r ≡ n → index m ≡ x → i ≤ x → x < n →
      ((j : ℕ) → j < n → value_reads (it.first + j) it.index ≡ false) → has_local reads (take r gs) ≡ false →
      run words reads (each (assigned_to kinds ToWord) (take r gs)) m ≡ on (word_set m (it.first + x) (value m))
  reached n zero i x gs m q size is from to apart locals = absurd (omega (arith, size, from, to))
  reached n (suc r) i x [] m q size is from to apart locals = absurd (omega (arith, size, eqb-true _ _ q))
  reached n (suc r) i x (g ∷ gs) m q size is from to apart locals =
      let parts = first_gives n i g gs (omega (arith, size)) q in
      let plain = or_parts _ _ locals in
      let rest = each (assigned_to kinds ToWord) (take r gs) in
      elim (cases_eq x i) [
        | inl here ↦
            let is_given = gives i g parts.0 in
            let set = at_index i g m true parts.0 (ap (λ y. nat_eq y i) is ∙ eq-eqb x i here) ∙ gives_is i g m is_given plain.0 in
            let there : Machine = word_set m (it.first + i) (value m) in
            let seen_so = seen_written reads m.memory m.locals (it.first + i) (value m) (subst (λ k. is_local (read_of reads k) ≡ false) is_given.0 plain.0) in
            let stays = ap (c_value it.index) seen_so ∙ value_stays (sees reads m) (it.first + i) (value m) it.index (apart i (omega (arith, size))) ∙ is in
            then_on _ set
            ∙ passed n r (i + 1) x gs there parts.1 (omega (arith, size)) stays (omega (arith, here))
            ∙ ap (λ j. on (word_set m (it.first + j) (value m))) (sym here)
        | inr further ↦
            let none = at_index i g m false parts.0 (ap (λ y. nat_eq y i) is ∙ ne_eqb x i further) in
            then_on _ none
            ∙ reached n r (i + 1) x gs m parts.1 (omega (arith, size)) is (later further from) to apart plain.1
      ]
    where
      later : (x ≡ i → ⊥) → i ≤ x → i + 1 ≤ x
      later ne le = elim (cases_lt i x) [ inl l ↦ omega (arith, l) | inr g ↦ absurd (ne (omega (arith, g, le))) ]

  -- the store does the same, within the array
  item_is : (m : Machine) → nat_lt (index m) (array_length words it.first) ≡ true → run words reads (item_given kinds it) m ≡ on (word_set m (it.first + index m) (value m))
  item_is m less = by (is_stored kinds it.first)
    where
      within : (if nat_lt (index m) (array_length words it.first) then on (word_set m (it.first + index m) (value m)) else waits m) ≡ on (word_set m (it.first + index m) (value m))
      within = ap (λ b. if b then on (word_set m (it.first + index m) (value m)) else waits m) less

      by : (b : Bool) → run words reads (if b then stores (item it.first it.index) it.value else writes (item it.first it.index) it.value) m ≡ on (word_set m (it.first + index m) (value m))
      by true = within
      by false = within

where_true : (b : Bool) (j k : ItemTree) → (if b then Some j else None) ≡ Some k → (b ≡ true) × (j ≡ k)
where_true true j k h = (refl, ap (λ o. option_map_or (λ i. i) o j) h)
where_true false j k h = cc h

-- a store that assignments are
store_is : (words : List Word) (kinds : List Kind) (reads : List Read) (m : Machine) → IsState words (sees reads m) → (gs : List GivenTree) (it : ItemTree) → is_together words kinds gs it ≡ true →
    has_local reads (take (array_length words it.first) gs) ≡ false →
    (c_value it.index (sees reads m) < array_length words it.first)
    × (run words reads (item_given kinds it) m ≡ run words reads (each (assigned_to kinds ToWord) (take (array_length words it.first) gs)) m)
store_is words kinds reads m state gs it q locals =
    let n = array_length words it.first in
    let i = c_value it.index (sees reads m) in
    let parts = and_parts _ _ q in
    let heads = and_parts _ _ parts.0 in
    let tails = and_parts _ _ parts.1 in
    let within = below words (sees reads m) state n it.index heads.1 in
    let unread = λ (j : ℕ) (less : j < n). all_at (λ i. not (value_reads (it.first + i) it.index)) 0 n tails.0 j (omega arith) (omega (arith, less)) in
    let apart : (j : ℕ) → j < n → value_reads (it.first + j) it.index ≡ false =
    λ j less. not-true (value_reads (it.first + j) it.index) (unread j less) in
    (within, item_is words kinds reads it m (lt-ltb i n within) ∙ sym (reached words kinds reads it n n 0 i gs m tails.1 (omega arith) refl (omega arith) within apart locals))

-- assignments that are together are so as the first of them tells
pub together_is : (words : List Word) (kinds : List Kind) (gs : List GivenTree) (it : ItemTree) → together words kinds gs ≡ Some it → is_together words kinds gs it ≡ true
together_is words kinds [] it h = cc h
together_is words kinds (g ∷ gs) it h = by (item_of g) h
  where
    test : ItemTree → Bool
    test j = nat_lt j.first (length words) && is_together words kinds (g ∷ gs) j

    by : (o : Option ItemTree) → option_map_or (λ j. if test j then Some j else None) o None ≡ Some it → is_together words kinds (g ∷ gs) it ≡ true
    by None q = cc q
    by (Some j) q =
        let found = where_true (test j) j it q in
        subst (λ i. is_together words kinds (g ∷ gs) i ≡ true) found.1 (and_parts _ _ found.0).1

pub stores_are_together : StoresAreTogether
stores_are_together words kinds reads m state gs it h locals = store_is words kinds reads m state gs it (together_is words kinds gs it h) locals
