-- Done at once, the statements of a step make the step of the program, and those of a test answer its question.
use Rattle.std.proofs.Common.{◌≡◌, ◌≢◌, ℕ, zero, suc, ◌+◌, ◌<◌, Bool, true, false, not, ◌&&◌, ◌||◌, nat_eq, List, [], ◌∷◌, ◌++◌, length, map, Option, Some, None, refl, ap, sym, subst, ◌∙◌, arith}
use Rattle.std.specs.Prelude.{slice_index, slice_set, replicate, codes, if◌then◌else◌}
use Rattle.std.specs.List.{list_any, range_with_len}
use Rattle.std.specs.Option.{option_map_or}
use Rattle.std.proofs.lemmas.Bool.{or_right, eqb-true, eq-eqb}
use Rattle.std.proofs.lemmas.List.{length-map, length-set}
use Rattle.std.proofs.lemmas.List.FromFn.{length-map-range_with_len}
use Rattle.rg_words.specs.Layout.{Word, widths_of, IsLayout}
use Rattle.rg_words.specs.States.{IsState}
use Rattle.rg_words.proofs.Values.{length-AreValues}
use Rattle.rg_tree.specs.Trees.{Proposition, Assignment}
use Rattle.rg_tree.specs.ConditionTrees.{assigned, AssignmentsTyped}
use Rattle.rg_tree.specs.Traces.{State, holds_at}
use Rattle.rg_c_values.specs.declared.print.Read.{Read}
use Rattle.rg_c_values.specs.declared.print.Read.TheVariants.{Plain, Load as Loaded, Local}
use Rattle.rg_c_values.specs.CTrees.{CTest, c_truth, c_not, c_joined, c_compared}
use Rattle.rg_c_values.specs.Translation.{test_in_c}
use Rattle.rg_c_values.specs.Arithmetic.{c_holds}
use Rattle.rg_c_values.proofs.Right.{tests_are_right as tests_right}
use Rattle.rg_c_plan.specs.declared.kind.Kind.{Kind}
use Rattle.rg_c_plan.specs.declared.way.Way.{Way}
use Rattle.rg_c_plan.specs.declared.way.Way.TheVariants.{Direct, Load, Store, Exchange, Select, Section}
use Rattle.rg_c_plan.specs.Changes.{moving}
use Rattle.rg_c_plan.specs.Accesses.{reads, writes, places}
use Rattle.rg_c_plan.specs.Ways.{kind_at, is_atomic, has_atomic_accesses, times_assigned, way_at, exposes_another, first_exposed, in_section, way_from, way_of, met_words}
use Rattle.rg_c.specs.declared.tree.Target.TheVariants.{Word as ToWord, Local as ToLocal}
use Rattle.rg_c.specs.declared.tree.Flag.TheVariants.{Done, Go}
use Rattle.rg_c.specs.CStatements.{asks, flag, CStatement, nothing, ◌⨾◌, reading, remark, hook, loads, discards, begins, copies, exchanges, returns, declares, decides, breaks, block, forever, when, either, each}
use Rattle.rg_c_report.specs.Counts.{is_section}
use Rattle.rg_c.specs.Assigned.{GivenTree, given_of, assigned_to, is_in, targets_beside}
use Rattle.rg_c.specs.Reads.{is_one_load, load_reads, kind_read, kind_reads, with_locals, local_reads}
use Rattle.rg_c.specs.Together.{all_given, is_local, has_local}
use Rattle.rg_c.specs.Used.{is_used, test_reads}
use Rattle.rg_c.specs.Meaning.{Machine, begun, sees, local_set, word_set, flag_set, Outcome, on, leaves, waits, next, around, exchanged, run, Step, made, none, ended, done}
use Rattle.rg_c.specs.Steps.{is_true, marked, waiting, awaits, entered, left, held_reads, if_done, held, held_step, loaded, changed, tested, attempted, exchanging, bare, step_by, test_of, names_text, section_note, step_of}
use Rattle.rg_c.specs.Questions.{is_bare, reads_loaded, loaded_reads, before, question}
use Rattle.rg_c.specs.Laws.{is_open, IsTypedGuard, StepsAreRight, TestsAreRight, questioned}
use Rattle.rg_c.proofs.Locals.{seen_plain, copied, copies_seen, length_copied, returned, returned_seen, no_locals}
use Rattle.rg_c.proofs.Targets.{Covered, covered, local_in, none_local, beside_local, moving_assigned, moving_typed}
use Rattle.rg_c.proofs.Givens.{then_on}
use Rattle.rg_c.proofs.Assigning.{Written, words_right, written_right, Stands, Kept, locals_right}

-- no word is read from its local
one_load : (n k : ℕ) → list_any is_local (slice_set (replicate n Plain) k Loaded) ≡ false
one_load zero zero = refl
one_load zero (suc k) = refl
one_load (suc n) zero = none n
  where
    none : (n : ℕ) → list_any is_local (replicate n Plain) ≡ false
    none zero = refl
    none (suc n) = none n
one_load (suc n) (suc k) = one_load n k

by_kinds : (kinds : List Kind) (ks : List ℕ) → list_any is_local (map (kind_read kinds) ks) ≡ false
by_kinds kinds [] = refl
by_kinds kinds (k ∷ ks) = rw (one (has_atomic_accesses (kind_at kinds k))) (by_kinds kinds ks)
  where
    one : (b : Bool) → is_local (if b then Loaded else Plain) ≡ false
    one true = refl
    one false = refl

-- a test that is always true is so
always : (t : CTest) (s : State) → is_true t ≡ true → c_holds t s ≡ true
always (c_truth b) s h = h
always (c_not t) s h = cc h
always (c_joined j t u) s h = cc h
always (c_compared c a b) s h = cc h

module _ (words : List Word) (reads : List Read) where
  mark_on : (mark : List ℕ) (m : Machine) → run words reads (marked mark) m ≡ on m
  mark_on mark m = by (nat_eq (length mark) 0)
    where
      by : (b : Bool) → run words reads (if b then nothing else hook mark) m ≡ on m
      by true = refl
      by false = refl

  -- copies, and what is returned
  copies_run : (ks : List ℕ) (m : Machine) → run words reads (each copies ks) m ≡ on (record m { locals = copied ks m.memory m.locals })
  copies_run [] m = refl
  copies_run (k ∷ ks) m = copies_run ks (local_set m k (slice_index m.memory k))

  returns_run : (ks : List ℕ) (m : Machine) → run words reads (each returns ks) m ≡ on (record m { memory = returned ks m.memory m.locals })
  returns_run [] m = refl
  returns_run (k ∷ ks) m = returns_run ks (word_set m k (slice_index m.locals k))

  -- waiting for a test
  awaits_run : (mark : List ℕ) (t : CTest) (m : Machine) (b : Bool) → c_holds t (sees reads m) ≡ b → run words reads (awaits (marked mark) t) m ≡ (if b then on m else waits m)
  awaits_run mark t m b e = by (is_true t) refl
    where
      after : (b : Bool) → around (next (if b then leaves m else on m) (run words reads waiting)) ≡ (if b then on m else waits m)
      after true = refl
      after false = refl

      by : (c : Bool) → is_true t ≡ c → run words reads (if c then marked mark else forever (marked mark ⨾ when (asks t) breaks ⨾ waiting)) m ≡ (if b then on m else waits m)
      by true f = mark_on mark m ∙ ap (λ p. if p then on m else waits m) (sym (always t (sees reads m) f) ∙ e)
      by false f = ap around (then_on _ (mark_on mark m)) ∙ ap (λ p. around (next (if p then leaves m else on m) (run words reads waiting))) e ∙ after b

  -- what is done where the step is made
  if_done_made : (empty : Bool) (c : CStatement) (m : Machine) → m.is_done ≡ true → (empty ≡ true → run words reads c m ≡ on m) → run words reads (if_done empty c) m ≡ run words reads c m
  if_done_made true c m h e = sym (e refl)
  if_done_made false c m h e = ap (λ p. if p then run words reads c m else on m) h

  if_done_none : (empty : Bool) (c : CStatement) (m : Machine) → m.is_done ≡ false → run words reads (if_done empty c) m ≡ on m
  if_done_none true c m h = refl
  if_done_none false c m h = ap (λ p. if p then run words reads c m else on m) h

module _ (words : List Word) (layout : IsLayout words) (kinds : List Kind) (s : State) (st : IsState words s) where
  abbrev kinds_read : List Read
  kinds_read = kind_reads words kinds

  -- a step of the program, or none
  abbrev stepped : List Assignment → Bool → Step
  stepped act b = if b then made (assigned act s) else none s

  plain : list_any is_local kinds_read ≡ false
  plain = by_kinds kinds (places words)

  sizes : length kinds_read ≡ length s
  sizes = length-map-range_with_len (kind_read kinds) 0 (length words) ∙ sym (length-map words _) ∙ length-AreValues (widths_of words) s st

  sees_plain : sees kinds_read (begun s) ≡ s
  sees_plain = seen_plain kinds_read s (no_locals s) plain

  -- how a step begins, that leaves the words alone, and after which they are seen
  record Entry (reads : List Read) (enter : CStatement) (m : Machine) : Type 0 where
    to : Machine
    run_is : run words reads enter m ≡ on to
    memory : to.memory ≡ s
    sight : sees reads to ≡ s

  -- a load into a local, or one that isn't read
  entry_of : (x : ℕ) (used : Bool) (goes : ℕ → Bool) → Entry (held_reads words kinds (Load x) used) (entered (Load x) used) (record (begun s) { goes = goes })
  entry_of x true goes = record {
    to = local_set (record (begun s) { goes = goes }) x (slice_index s x);
    run_is = refl;
    memory = refl;
    sight = copies_seen (x ∷ []) kinds_read s (no_locals s) sizes (length-map s _) sees_plain;
  }
  entry_of x false goes = record { to = record (begun s) { goes = goes }; run_is = refl; memory = refl; sight = sees_plain }

  module _ (mark : List ℕ) (t : CTest) (b : Bool) (e : c_holds t s ≡ b) where
    always_so : is_true t ≡ true → true ≡ b
    always_so f = sym (always t s f) ∙ e

    module _ (act : List Assignment) (h : AssignmentsTyped (widths_of words) act) where
      abbrev gs : List GivenTree
      gs = map (given_of (widths_of words)) act

      abbrev all : CStatement
      all = all_given words kinds 0 gs

      -- a step without locals
      bare_right : done words (bare words kinds (marked mark) t gs) s ≡ stepped act b
      bare_right = ap (λ o. ended (next o (run words kinds_read all))) (awaits_run words kinds_read mark t (begun s) b (ap (c_holds t) sees_plain ∙ e)) ∙ after b
        where
          local : has_local kinds_read gs ≡ false
          local = none_local kinds_read gs plain

          w : Written words layout kinds kinds_read act s (begun s)
          w = words_right words layout kinds kinds_read act s (begun s) st h refl sees_plain local

          after : (b : Bool) → ended (next (if b then on (begun s) else waits (begun s)) (run words kinds_read all)) ≡ stepped act b
          after true = ap ended (written_right words layout kinds kinds_read act s (begun s) w local) ∙ ap made w.memory
          after false = refl

      -- a step from this beginning to this end
      held_right : (reads : List Read) (enter leave : CStatement) → has_local reads gs ≡ false → Entry reads enter (begun s) → ((m : Machine) → run words reads leave m ≡ on m) →
          ended (run words reads (held (marked mark) enter leave t (nat_eq (length gs) 0) all) (begun s)) ≡ stepped act b
      held_right reads enter leave local entry leaving = by (is_true t) refl
        where
          empty : Bool
          empty = nat_eq (length gs) 0

          ending : CStatement
          ending = if_done empty all ⨾ leave ⨾ when (flag Done) breaks ⨾ waiting

          tested : Bool → Machine
          tested p = flag_set entry.to Done p

          written : (m : Machine) → m.memory ≡ s → sees reads m ≡ s → Written words layout kinds reads act s m
          written m memory sight = words_right words layout kinds reads act s m st h memory sight local

          none_given : (act : List Assignment) (m : Machine) → let gs = map (given_of (widths_of words)) act in nat_eq (length gs) 0 ≡ true → run words reads (all_given words kinds 0 gs) m ≡ on m
          none_given [] m q = refl
          none_given (a ∷ act) m q = absurd (omega (arith, eqb-true _ 0 q))

          after : (b : Bool) → ended (around (run words reads ending (tested b))) ≡ stepped act b
          after true =
              let w = written (tested true) entry.memory entry.sight in
              ap (λ o. ended (around o)) (
              then_on _ (if_done_made words reads empty all (tested true) refl (none_given act (tested true)) ∙ written_right words layout kinds reads act s (tested true) w local)
              ∙ then_on _ (leaving w.to)
              ∙ ap (λ p. next (if p then leaves w.to else on w.to) (run words reads waiting)) w.done
              )
              ∙ ap made w.memory
          after false = ap (λ o. ended (around o)) (then_on _ (if_done_none words reads empty all (tested false) refl) ∙ then_on _ (leaving (tested false))) ∙ ap none entry.memory

          by : (p : Bool) → is_true t ≡ p → ended (run words reads (if p then block (marked mark ⨾ enter ⨾ all ⨾ leave) else forever (declares Done ⨾ marked mark ⨾ enter ⨾ decides Done t ⨾ ending)) (begun s)) ≡ stepped act b
          by true f =
              let w = written entry.to entry.memory entry.sight in
              ap ended (then_on _ (mark_on words reads mark (begun s)) ∙ then_on _ entry.run_is ∙ then_on _ (written_right words layout kinds reads act s entry.to w local) ∙ leaving w.to)
              ∙ ap made w.memory
              ∙ ap (stepped act) (always_so f)
          by false f =
              ap (λ o. ended (around o)) (then_on _ (mark_on words reads mark (begun s)) ∙ then_on _ entry.run_is ∙ ap (λ p. run words reads ending (tested p)) (ap (c_holds t) entry.sight ∙ e))
              ∙ after b

      section_right : done words (held_step words kinds (marked mark) Section true t gs) s ≡ stepped act b
      section_right =
          held_right kinds_read (entered Section true) (left Section) (none_local kinds_read gs plain) (record { to = begun s; run_is = refl; memory = refl; sight = sees_plain }) (λ m. refl)

      loaded_right : (x : ℕ) → writes x act ≡ false → done words (loaded words kinds (marked mark) x t gs) s ≡ stepped act b
      loaded_right x free = by (nat_eq (length gs) 0) (is_one_load x t) refl
        where
          local : (used : Bool) → has_local (held_reads words kinds (Load x) used) gs ≡ false
          local true = beside_local kinds_read (widths_of words) x act plain free
          local false = none_local kinds_read gs plain

          used : Bool
          used = is_used x t gs

          held_so : done words (held_step words kinds (marked mark) (Load x) used t gs) s ≡ stepped act b
          held_so = held_right (held_reads words kinds (Load x) used) (entered (Load x) used) nothing (local used) (entry_of x used (λ place. false)) (λ m. refl)

          -- a test that loads a word once
          sight : sees (load_reads words x) (begun s) ≡ s
          sight = seen_plain (load_reads words x) s (no_locals s) (one_load (length words) x)

          after : (b : Bool) (act : List Assignment) → nat_eq (length (map (given_of (widths_of words)) act)) 0 ≡ true → ended (if b then on (begun s) else waits (begun s)) ≡ stepped act b
          after true [] q = refl
          after true (a ∷ act) q = absurd (omega (arith, eqb-true _ 0 q))
          after false act q = refl

          by : (p o : Bool) → nat_eq (length gs) 0 ≡ p → done words (if p && o then reading (load_reads words x) (awaits (marked mark) t) else held_step words kinds (marked mark) (Load x) used t gs) s ≡ stepped act b
          by true true q = ap ended (awaits_run words (load_reads words x) mark t (begun s) b (ap (c_holds t) sight ∙ e)) ∙ after b act q
          by true false q = held_so
          by false o q = held_so

      exchange_right : (x : ℕ) → done words (exchanging words kinds (marked mark) x t gs) s ≡ stepped act b
      exchange_right x =
          ap (λ o. ended (around o)) (then_on _ (mark_on words reads mark (begun s)) ∙ then_on _ (copies_run words reads ks (local_set (record (begun s) { old = slice_index s x }) x (slice_index s x))))
          ∙ after (is_true t) b refl e
        where
          ks : List ℕ
          ks = targets_beside (x ∷ []) gs

          reads : List Read
          reads = local_reads words kinds (x ∷ ks)

          copies_made : Machine
          copies_made = record (begun s) { locals = copied (x ∷ ks) s (no_locals s); old = slice_index s x }

          c : CStatement
          c = changed kinds x ks gs

          empty : Bool
          empty = nat_eq (length ks) 0

          leaving : Machine → Outcome
          leaving = run words reads (when (flag Done) breaks)

          sight : sees reads copies_made ≡ s
          sight = copies_seen (x ∷ ks) kinds_read s (no_locals s) sizes (length-map s _) sees_plain

          size : length reads ≡ length s
          size = all_length (x ∷ ks) kinds_read ∙ sizes
            where
              all_length : (ks : List ℕ) (reads : List Read) → length (with_locals reads ks) ≡ length reads
              all_length [] reads = refl
              all_length (k ∷ ks) reads = all_length ks (slice_set reads k Local) ∙ length-set reads k Local

          all_covered : Covered reads gs
          all_covered =
              covered reads (x ∷ []) gs (λ k less m. local_in (x ∷ ks) kinds_read k (below less) (first k m)) (λ k less m. local_in (x ∷ ks) kinds_read k (below less) (or_right (nat_eq k x) (is_in k ks) m))
            where
              below : {k : ℕ} → k < length reads → k < length kinds_read
              below less = omega (arith, less, size, sizes)

              first : (k : ℕ) → is_in k (x ∷ []) ≡ true → is_in k (x ∷ ks) ≡ true
              first k m = by (nat_eq k x) m
                where
                  by : (p : Bool) → (p || false) ≡ true → (p || is_in k ks) ≡ true
                  by true q = refl
                  by false q = cc q

          kept : Kept words layout kinds reads act s s copies_made
          kept =
              locals_right words layout kinds reads act s s copies_made (size ∙ sym (length-AreValues (widths_of words) s st)) st h
              (record { memory = refl; sight = sight; count = length_copied (x ∷ ks) s (no_locals s) ∙ length-map s _ }) all_covered

          -- the exchange is made, as nothing came between
          exchange_made : Machine
          exchange_made = flag_set (word_set kept.to x (slice_index kept.to.locals x)) Done true

          exchange_is : exchanged x kept.to ≡ exchange_made
          exchange_is =
              let same : nat_eq (slice_index kept.to.memory x) kept.to.old ≡ true =
              ap (λ u. nat_eq (slice_index u x) kept.to.old) kept.stands.memory ∙ ap (nat_eq (slice_index s x)) kept.old ∙ eq-eqb (slice_index s x) (slice_index s x) refl in
              ap (λ p. if p then exchange_made else flag_set kept.to Done false) same

          all_made : Machine
          all_made = record exchange_made { memory = returned ks exchange_made.memory exchange_made.locals }

          made_run : run words reads c copies_made ≡ on all_made
          made_run =
              then_on (run words reads (exchanges x ⨾ if_done empty (each returns ks))) kept.run_is
              ∙ then_on (run words reads (if_done empty (each returns ks))) (ap on exchange_is)
              ∙ if_done_made words reads empty (each returns ks) exchange_made refl (none_returned ks)
              ∙ returns_run words reads ks exchange_made
            where
              none_returned : (ks : List ℕ) → nat_eq (length ks) 0 ≡ true → run words reads (each returns ks) exchange_made ≡ on exchange_made
              none_returned [] q = refl
              none_returned (k ∷ ks) q = absurd (omega (arith, eqb-true _ 0 q))

          memory : all_made.memory ≡ assigned act s
          memory =
              ap (λ u. returned ks (slice_set u x (slice_index kept.to.locals x)) kept.to.locals) kept.stands.memory
              ∙ returned_seen (x ∷ ks) kinds_read s kept.to.locals sizes kept.stands.count plain
              ∙ ap (λ u. sees reads (record kept.to { memory = u })) (sym kept.stands.memory)
              ∙ kept.stands.sight

          ending : run words reads c copies_made ≡ on all_made → ended (around (next (run words reads c copies_made) leaving)) ≡ made (assigned act s)
          ending q = ap (λ o. ended (around (next o leaving))) q ∙ ap made memory

          after : (p b : Bool) → is_true t ≡ p → c_holds t s ≡ b → ended (around (next (run words reads (if p then c else either (asks t) c waiting) copies_made) leaving)) ≡ stepped act b
          after true true f e = ending made_run
          after true false f e = let no = always t s f in cc
          after false true f e = ap (λ p. ended (around (next (if p then run words reads c copies_made else on copies_made) leaving))) (ap (c_holds t) sight ∙ e) ∙ ending made_run
          after false false f e = ap (λ p. ended (around (next (if p then run words reads c copies_made else on copies_made) leaving))) (ap (c_holds t) sight ∙ e)

      -- each way does the same, where a word that is loaded isn't written
      way_right : (way : Way) → ((x : ℕ) → way ≡ Load x → writes x act ≡ false) → done words (step_by words kinds (marked mark) way t gs) s ≡ stepped act b
      way_right Direct free = bare_right
      way_right Select free = bare_right
      way_right (Store x) free = bare_right
      way_right Section free = section_right
      way_right (Load x) free = loaded_right x (free x refl)
      way_right (Exchange x) free = exchange_right x

    -- a question that stands in the `if` itself
    bare_question : (reads : List Read) → sees reads (begun s) ≡ s → ended (run words reads (marked mark ⨾ either (asks t) nothing breaks) (begun s)) ≡ stepped [] b
    bare_question reads sight =
        ap ended (then_on _ (mark_on words reads mark (begun s)) ∙ ap (λ p. if p then on (begun s) else leaves (begun s)) (ap (c_holds t) sight ∙ e)) ∙ after b
      where
        after : (b : Bool) → ended (if b then on (begun s) else leaves (begun s)) ≡ stepped [] b
        after true = refl
        after false = refl

    -- one that is worked out before
    worked_question : (reads : List Read) (enter leave : CStatement) (place : ℕ) → Entry reads enter (flag_set (begun s) (Go place) false) → ((m : Machine) → run words reads leave m ≡ on m) →
        ended (run words reads ((declares (Go place) ⨾ block (marked mark ⨾ enter ⨾ decides (Go place) t ⨾ leave)) ⨾ either (flag (Go place)) nothing breaks) (begun s)) ≡ stepped [] b
    worked_question reads enter leave place entry leaving =
        ap ended (
        then_on _ (then_on _ (mark_on words reads mark begins) ∙ then_on _ entry.run_is ∙ then_on (run words reads leave) (ap (λ p. on (flag_set entry.to (Go place) p)) (ap (c_holds t) entry.sight ∙ e)) ∙ leaving decided)
        ∙ ap (λ p. if p then on decided else leaves decided) (ap (λ p. if p then b else entry.to.goes place) (eq-eqb place place refl))
        )
        ∙ after b
      where
        begins : Machine
        begins = flag_set (begun s) (Go place) false

        decided : Machine
        decided = flag_set entry.to (Go place) b

        after : (b : Bool) → ended (if b then on decided else leaves decided) ≡ stepped [] b
        after true = ap made entry.memory
        after false = ap none entry.memory

    question_right : (way : Way) (place : ℕ) → done words (reading (loaded_reads words kinds way t) (before (marked mark) place way t ⨾ either (question place way t) nothing breaks)) s ≡ stepped [] b
    question_right Direct place = bare_question kinds_read sees_plain
    question_right Select place = bare_question kinds_read sees_plain
    question_right (Store x) place = worked_question kinds_read nothing nothing place (record { to = flag_set (begun s) (Go place) false; run_is = refl; memory = refl; sight = sees_plain }) (λ m. refl)
    question_right (Exchange x) place = worked_question kinds_read nothing nothing place (record { to = flag_set (begun s) (Go place) false; run_is = refl; memory = refl; sight = sees_plain }) (λ m. refl)
    question_right Section place =
        worked_question kinds_read (entered Section true) (left Section) place (record { to = flag_set (begun s) (Go place) false; run_is = refl; memory = refl; sight = sees_plain }) (λ m. refl)
    question_right (Load x) place = by (is_one_load x t)
      where
        used : Bool
        used = test_reads x t

        go : CStatement
        go = declares (Go place) ⨾ block (marked mark ⨾ entered (Load x) used ⨾ decides (Go place) t ⨾ nothing)

        by : (p : Bool) →
            done words (reading (if p then load_reads words x else held_reads words kinds (Load x) used) ((if p then marked mark else go) ⨾ either (if p then asks t else flag (Go place)) nothing breaks)) s ≡ stepped [] b
        by true = bare_question (load_reads words x) (seen_plain (load_reads words x) s (no_locals s) (one_load (length words) x))
        by false = worked_question (held_reads words kinds (Load x) used) (entered (Load x) used) nothing place (entry_of x used (λ j. if nat_eq j place then false else false)) (λ m. refl)

-- a word that a step loads isn't written
loaded_free : (kinds : List Kind) (guard : Option Proposition) (act : List Assignment) (x : ℕ) → way_of kinds guard act ≡ Load x → writes x act ≡ false
loaded_free kinds guard act x e = by_section (in_section kinds guard act) (first_exposed kinds guard act) e
  where
    at : (k : ℕ) (p w : Bool) → writes k act ≡ w → (if p then Store k else if not w then Load k else Exchange k) ≡ Load x → writes x act ≡ false
    at k true w f e = cc
    at k false true f e = cc
    at k false false f e = let same : k ≡ x = cc in rw (sym same) f

    by_another : (k : ℕ) (b : Bool) → (if b then Select else way_at kinds guard act k) ≡ Load x → writes x act ≡ false
    by_another k true e = cc
    by_another k false e = at k (not (is_atomic (kind_at kinds k) && reads k guard act) && nat_eq (times_assigned k act) 1) (writes k act) refl e

    by_word : (o : Option ℕ) → option_map_or (way_from kinds guard act) o Direct ≡ Load x → writes x act ≡ false
    by_word None e = cc
    by_word (Some k) e = by_another k (exposes_another kinds guard act k) e

    by_section : (b : Bool) (o : Option ℕ) → (if b then Section else option_map_or (way_from kinds guard act) o Direct) ≡ Load x → writes x act ≡ false
    by_section true o e = cc
    by_section false o e = by_word o e

guard_right : (words : List Word) (guard : Option Proposition) (s : State) → IsLayout words → IsState words s → IsTypedGuard words guard → c_holds (test_of (widths_of words) guard) s ≡ is_open guard s
guard_right words None s layout st h = refl
guard_right words (Some f) s layout st h = tests_right words s layout st f h.0

note_on : (words : List Word) (kinds : List Kind) (guard : Option Proposition) (act : List Assignment) (m : Machine) → run words [] (section_note words kinds guard act) m ≡ on m
unfolding section_note
note_on words kinds guard act m = by (is_section (way_of kinds guard act))
  where
    by : (b : Bool) → run words [] (if b then remark (codes "a critical section, for " ++ names_text words (met_words kinds guard act)) else nothing) m ≡ on m
    by true = refl
    by false = refl

pub steps_are_right : StepsAreRight
unfolding step_of
steps_are_right words kinds mark guard act s layout st g h =
    let moves = moving act in
    ap ended (then_on _ (note_on words kinds guard moves (begun s)))
    ∙ way_right words layout kinds s st mark (test_of (widths_of words) guard) (is_open guard s) (guard_right words guard s layout st g) moves (moving_typed (widths_of words) act h) (way_of kinds guard moves) (loaded_free kinds guard moves)
    ∙ ap (λ t. if is_open guard s then made t else none s) (moving_assigned act s)

pub tests_are_right : TestsAreRight
tests_are_right words kinds mark place f s layout st h =
    question_right words layout kinds s st mark (test_in_c (widths_of words) f) (holds_at f s) (tests_right words s layout st f h.0) (way_of kinds (Some f) []) place
