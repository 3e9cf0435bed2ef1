-- The assignments of a step, one by one, set the words, or their locals, to what the program assigns.
use Rattle.std.proofs.Common.{◌≡◌, ℕ, suc, ◌<◌, Bool, true, false, nat_eq, List, [], ◌∷◌, length, map, Option, Some, None, refl, ap, sym, subst, ◌∙◌, arith}
use Rattle.std.specs.Prelude.{slice_index, slice_set, option_map, if◌then◌else◌}
use Rattle.std.specs.List.{list_any}
use Rattle.std.specs.Option.{option_map_or}
use Rattle.std.proofs.lemmas.Bool.{or_parts}
use Rattle.std.proofs.lemmas.List.{length-set, set-get_or}
use Rattle.rg_words.specs.Layout.{Word, widths_of, IsLayout}
use Rattle.rg_words.specs.States.{IsState}
use Rattle.rg_tree.specs.Trees.{Expression, Proposition, Assignment, number, word, next_word, inverse, binary, shifted, choice}
use Rattle.rg_tree.specs.Typing.{HasWidth, IsTyped}
use Rattle.rg_tree.specs.Meaning.{value_of, holds}
use Rattle.rg_tree.specs.ConditionTrees.{assigned, AssignmentsTyped}
use Rattle.rg_tree.specs.Traces.{State}
use Rattle.rg_tree.proofs.Steps.{set_values}
use Rattle.rg_tree.proofs.Widths.{values_within}
use Rattle.rg_c_values.specs.declared.print.Read.{Read}
use Rattle.rg_c_values.specs.declared.print.Read.TheVariants.{Local}
use Rattle.rg_c_values.specs.CTrees.{CValue, CTest}
use Rattle.rg_c_values.specs.Items.{read_of}
use Rattle.rg_c_values.specs.Translation.{test_in_c}
use Rattle.rg_c_values.specs.Arithmetic.{c_value, c_holds}
use Rattle.rg_c_values.proofs.Right.{stores_are_right, tests_are_right}
use Rattle.rg_c_plan.specs.declared.kind.Kind.{Kind}
use Rattle.rg_c_plan.specs.Changes.{ChangeTree, is_word, change_by, change_of}
use Rattle.rg_c.specs.declared.tree.Target.{Target}
use Rattle.rg_c.specs.declared.tree.Target.TheVariants.{Word as ToWord, Local as ToLocal}
use Rattle.rg_c.specs.CStatements.{CStatement, asks, when, each}
use Rattle.rg_c.specs.Assigned.{GivenTree, given_of, given, assigned_to}
use Rattle.rg_c.specs.Together.{is_local, has_local, all_given}
use Rattle.rg_c.specs.Meaning.{Machine, sees, word_set, local_set, on, run}
use Rattle.rg_c.specs.Laws.{is_open}
use Rattle.rg_c.proofs.Locals.{seen_set, seen_local, seen_written}
use Rattle.rg_c.proofs.Targets.{itself, Covered}
use Rattle.rg_c.proofs.Givens.{set_to, word_kept, given_right, then_on}
use Rattle.rg_c.proofs.Merged.{one, Goes, Going, merged}

-- a test is typed, if there is one, and a change has this width
abbrev TestTyped : List ℕ → Option Proposition → Type 0
TestTyped widths None = Unit {0}
TestTyped widths (Some f) = IsTyped widths f

abbrev ChangeTyped : List ℕ → ChangeTree → ℕ → Type 0
ChangeTyped widths c w = TestTyped widths c.test × HasWidth widths c.value w

typed_by : (widths : List ℕ) (k : ℕ) (e : Expression) (w : ℕ) → HasWidth widths e w → ChangeTyped widths (change_by k e) w
typed_by widths k (number v n) w h = (tt, h)
typed_by widths k (word j) w h = (tt, h)
typed_by widths k (next_word j) w h = (tt, h)
typed_by widths k (inverse v a) w h = (tt, h)
typed_by widths k (binary o v a b) w h = (tt, h)
typed_by widths k (shifted d v a n) w h = (tt, h)
typed_by widths k (choice f a b) w h = by (is_word k b)
  where
    by : (t : Bool) → ChangeTyped widths (if t then record { test = Some f; value = a } else record { test = None; value = choice f a b }) w
    by true = (h.0, h.1)
    by false = (tt, h)

-- where its test holds, a word is changed to the value; else it is left alone
record Changed (s : State) (k : ℕ) (e : Expression) (c : ChangeTree) : Type 0 where
  made : is_open c.test s ≡ true → value_of c.value s s ≡ value_of e s s
  left : is_open c.test s ≡ false → slice_index s k ≡ value_of e s s

changed_by : (s : State) (k : ℕ) (e : Expression) → Changed s k e (change_by k e)
changed_by s k (number v n) = record { made = λ h. refl; left = λ h. cc h }
changed_by s k (word j) = record { made = λ h. refl; left = λ h. cc h }
changed_by s k (next_word j) = record { made = λ h. refl; left = λ h. cc h }
changed_by s k (inverse v a) = record { made = λ h. refl; left = λ h. cc h }
changed_by s k (binary o v a b) = record { made = λ h. refl; left = λ h. cc h }
changed_by s k (shifted d v a n) = record { made = λ h. refl; left = λ h. cc h }
changed_by s k (choice f a b) = by (is_word k b) refl
  where
    taken : (t : Bool) → t ≡ true → value_of a s s ≡ (if t then value_of a s s else value_of b s s)
    taken true h = refl
    taken false h = cc h

    kept : (t : Bool) → t ≡ false → slice_index s k ≡ value_of b s s → slice_index s k ≡ (if t then value_of a s s else value_of b s s)
    kept true h e = cc h
    kept false h e = e

    by : (t : Bool) → is_word k b ≡ t → Changed s k (choice f a b) (if t then record { test = Some f; value = a } else record { test = None; value = choice f a b })
    by true e = record { made = λ h. taken (holds f s s) h; left = λ h. kept (holds f s s) h (sym (itself k b s e)) }
    by false e = record { made = λ h. refl; left = λ h. cc h }

module _ (words : List Word) (layout : IsLayout words) (kinds : List Kind) (reads : List Read) where
  abbrev widths : List ℕ
  widths = widths_of words

  abbrev translated : List Assignment → List GivenTree
  translated act = map (given_of widths) act

  -- what C gives a word for an assignment
  value_right : (a : Assignment) (t : State) → IsState words t → HasWidth widths a.value (slice_index widths a.target) → c_value (given_of widths a).value t ≡ value_of (change_of a).value t t
  value_right a t st h = (stores_are_right words t layout st (change_of a).value (slice_index widths a.target) (typed_by widths a.target a.value (slice_index widths a.target) h).1).0

  -- what has a test is done where that holds
  tested_right : (test : Option Proposition) (c : CStatement) (t : State) (m : Machine) → IsState words t → TestTyped widths test → sees reads m ≡ t →
      run words reads (option_map_or (λ f. when (asks f) c) (option_map (test_in_c widths) test) c) m ≡ (if is_open test t then run words reads c m else on m)
  tested_right None c t m st h e = refl
  tested_right (Some f) c t m st h e = ap (λ b. if b then run words reads c m else on m) (ap (c_holds (test_in_c widths f)) e ∙ tests_are_right words t layout st f h)

  next_state : (a : Assignment) (act : List Assignment) (t : State) → IsState words t → AssignmentsTyped widths (a ∷ act) → IsState words (slice_set t a.target (value_of a.value t t))
  next_state a act t st h =
      set_values widths t a.target (value_of a.value t t) st h.0 (values_within widths t t a.value (slice_index widths a.target) h.1 st st)

  -- an assignment to a word, or to its local, sets it
  assigned_right : (to : Target) (a : Assignment) (t : State) (m : Machine) → IsState words t → HasWidth widths a.value (slice_index widths a.target) → sees reads m ≡ t →
      set_to to m a.target (slice_index (sees reads m) a.target) ≡ m → run words reads (assigned_to kinds to (given_of widths a)) m ≡ on (set_to to m a.target (value_of a.value t t))
  assigned_right to a t m st h sight kept =
      tested_right (change_of a).test (given kinds to a.target v) t m st (typed_by widths a.target a.value (slice_index widths a.target) h).0 sight ∙ by (is_open (change_of a).test t) refl
    where
      v : CValue
      v = (given_of widths a).value

      change : Changed t a.target a.value (change_of a)
      change = changed_by t a.target a.value

      by : (b : Bool) → is_open (change_of a).test t ≡ b → (if b then run words reads (given kinds to a.target v) m else on m) ≡ on (set_to to m a.target (value_of a.value t t))
      by true e = given_right words kinds reads to a.target v m kept ∙ ap (λ x. on (set_to to m a.target x)) (ap (c_value v) sight ∙ value_right a t st h ∙ change.made e)
      by false e = ap on (sym (ap (set_to to m a.target) (sym (change.left e) ∙ ap (λ u. slice_index u a.target) (sym sight)) ∙ kept))

  -- what comes of assignments to words
  pub record Written (act : List Assignment) (t : State) (m : Machine) : Type 0 where
    pub going : Going words kinds reads (translated act) m
    pub to : Machine
    pub run_is : run words reads (each (one words kinds reads) (translated act)) m ≡ on to
    pub memory : to.memory ≡ assigned act t
    pub done : to.is_done ≡ m.is_done

  pub words_right : (act : List Assignment) (t : State) (m : Machine) → IsState words t → AssignmentsTyped widths act → m.memory ≡ t → sees reads m ≡ t → has_local reads (translated act) ≡ false → Written act t m
  words_right [] t m st h memory sight local = record { going = tt; to = m; run_is = refl; memory = memory; done = refl }
  words_right (a ∷ act) t m st h memory sight local =
      let x = value_of a.value t t in
      let d = or_parts _ _ local in
      let there : Machine = word_set m a.target x in
      let first = assigned_right ToWord a t m st h.1 sight (word_kept reads m a.target d.0) in
      let rest = words_right act (slice_set t a.target x) there (next_state a act t st h) h.2 (ap (λ u. slice_set u a.target x) memory)
      (seen_written reads m.memory m.locals a.target x d.0 ∙ ap (λ u. slice_set u a.target x) sight) d.1 in
      record {
        going = (subst (IsState words) (sym sight) st, record { to = there; run_is = first; rest = rest.going });
        to = rest.to;
        run_is = then_on _ first ∙ rest.run_is;
        memory = rest.memory;
        done = rest.done;
      }

  -- as they are printed
  pub written_right : (act : List Assignment) (t : State) (m : Machine) (w : Written act t m) → has_local reads (translated act) ≡ false → run words reads (all_given words kinds 0 (translated act)) m ≡ on w.to
  written_right act t m w local = merged words kinds reads (translated act) 0 m m w.going local refl ∙ w.run_is

  -- the words are s, and t is seen
  pub record Stands (s t : State) (m : Machine) : Type 0 where
    pub memory : m.memory ≡ s
    pub sight : sees reads m ≡ t
    pub count : length m.locals ≡ length s

  -- what comes of assignments to locals
  pub record Kept (act : List Assignment) (s t : State) (m : Machine) : Type 0 where
    pub to : Machine
    pub run_is : run words reads (each (assigned_to kinds ToLocal) (translated act)) m ≡ on to
    pub stands : Stands s (assigned act t) to
    pub old : to.old ≡ m.old

  pub locals_right : (act : List Assignment) (s t : State) (m : Machine) → length reads ≡ length widths → IsState words t → AssignmentsTyped widths act → Stands s t m → Covered reads (translated act) → Kept act s t m
  locals_right [] s t m size st h stands covered = record { to = m; run_is = refl; stands = stands; old = refl }
  locals_right (a ∷ act) s t m size st h stands covered =
      let x = value_of a.value t t in
      let less : a.target < length reads = let l = h.0 in omega (arith, size, l) in
      let local = covered.0 less in
      let count : length m.locals ≡ length m.memory = stands.count ∙ sym (ap length stands.memory) in
      let kept : local_set m a.target (slice_index (sees reads m) a.target) ≡ m =
      ap (λ u. let n : Machine = record m { locals = u } in n) (ap (slice_set m.locals a.target) (seen_local reads m.memory m.locals a.target local count) ∙ set-get_or m.locals a.target 0) in
      let there : Machine = local_set m a.target x in
      let first = assigned_right ToLocal a t m st h.1 stands.sight kept in
      let stands_then : Stands s (slice_set t a.target x) there = record {
        memory = stands.memory;
        sight = seen_set reads m.memory m.locals a.target x local count ∙ ap (λ u. slice_set u a.target x) stands.sight;
        count = length-set m.locals a.target x ∙ stands.count;
      } in
      let rest = locals_right act s (slice_set t a.target x) there size (next_state a act t st h) h.2 stands_then covered.1 in
      record {
        to = rest.to;
        run_is = then_on _ first ∙ rest.run_is;
        stands = rest.stands;
        old = rest.old;
      }
