-- The code of a statement has exactly the statement's runs.
use Rattle.std.proofs.Common.{◌≡◌, ℕ, zero, suc, ◌+◌, ◌≤◌, Bool, true, false, List, [], ◌∷◌, ◌++◌, length, Some, refl, sym, subst, ap, ◌∙◌, arith, append_assoc, length-append}
use Rattle.std.specs.Prelude.{slice_get, if◌then◌else◌, map, option_map}
use Rattle.std.proofs.lemmas.List.{append-nil}
use Rattle.rg_tree.specs.Trees.{Proposition, Assignment}
use Rattle.rg_tree.specs.Statements.{Statement, skip, assign, await, sequence, branch, loop, Items, one, more}
use Rattle.rg_tree.specs.ConditionTrees.{assigned}
use Rattle.rg_tree.specs.Traces.{State, holds_at, ViewStep, Own, Env, last}
use Rattle.rg_tree.specs.Runs.{Behavior, AllEnv, Atomic, Then, Within, Past, Yes, No, Choice, Loop, Idle, Wait, Leave, Inner, Again, runs, runs_of_items, always}
use Rattle.rg_tree.proofs.Guards.{last-append}
use Rattle.rg_tree.proofs.Stands.{Stands, stands_get, stands_tail, stands_front, stands_back}
use Rattle.rg_tree.proofs.Joins.{runs_tails, Below, then_map, then_assoc_left, then_assoc_right, then_env, then_own}
use Rattle.rg_code.specs.Operations.{formula_operations, reported_by}
use Rattle.rg_code.proofs.Operations.{reported_formula, stored_assigned}
use Rattle.rg_code.specs.Code.{stored, store_of, BlockTree, do_block, await_block, test_block, end_block, Makes_step, is_end, count_of, count_of_items, code_of, code_of_items, part_code}

-- the runs of one part's code from a place, as the part sees them
abbrev pub CodeRuns : List BlockTree → ℕ → State → List ViewStep → Bool → Type 0
CodeRuns code at s [] ended = ended ≡ is_end (slice_get code at)
CodeRuns code at s (Env t ∷ ms) ended = CodeRuns code at t ms ended
CodeRuns code at s (Own t ∷ ms) ended = (to : ℕ) × Makes_step (slice_get code at) s t to × CodeRuns code to t ms ended

abbrev pick : Bool → ℕ → ℕ → ℕ
pick v yes_place no_place = if v then yes_place else no_place

module _ (code : List BlockTree) where
  -- the runs of the code from a place
  abbrev pub From : ℕ → Behavior
  From k = CodeRuns code k

  env_then : (k : ℕ) (s : State) (before rest : List ViewStep) (ended : Bool) → AllEnv before → From k (last s before) rest ended → From k s (before ++ rest) ended
  env_then k s [] rest ended a c = c
  env_then k s (Own t ∷ before) rest ended a c = absurd a
  env_then k s (Env t ∷ before) rest ended a c = env_then k t before rest ended a c

  -- a block that makes one step
  module _ (first next : ℕ) (b : State → Bool) (f : State → State) (not_end : is_end (slice_get code first) ≡ false) where
    atomic_to : ((s t : State) (to : ℕ) → Makes_step (slice_get code first) s t to → (b s ≡ true) × (t ≡ f s) × (to ≡ next)) → Below (From first) (Then (Atomic b f) (From next))
    atomic_to acts s [] ended c = subst (λ x. Then (Atomic b f) (From next) s [] x) (sym (c ∙ not_end)) (Within refl)
    atomic_to acts s (Env t ∷ ms) ended c = then_env (Atomic b f) (Atomic b f) (From next) s t (λ ms' e a. a) ms ended (atomic_to acts t ms ended c)
    atomic_to acts s (Own t ∷ ms) ended c =
        let h = acts s t c.0 c.1 in
        Past (Own t ∷ []) ms refl (record { test = h.0; result = h.1; rest = tt; over = refl }) (subst (λ k. From k t ms ended) h.2 c.2)

    atomic_within : (s : State) (ms : List ViewStep) (ended : Bool) → Atomic b f s ms ended → ended ≡ false → From first s ms ended
    atomic_within s [] ended a z = z ∙ sym not_end
    atomic_within s (Env t ∷ ms) ended a z = atomic_within t ms ended a z
    atomic_within s (Own t ∷ ms) ended a z = let w = a.over in cc (w, z)

    atomic_past : ((s : State) → b s ≡ true → Makes_step (slice_get code first) s (f s) next) → (s : State) (before : List ViewStep) (e : Bool) → Atomic b f s before e → e ≡ true → (rest : List ViewStep) (ended : Bool) → From next (last s before) rest ended → From first s (before ++ rest) ended
    atomic_past made s [] e a z rest ended c = cc (a, z)
    atomic_past made s (Env t ∷ before) e a z rest ended c = atomic_past made t before e a z rest ended c
    atomic_past made s (Own t ∷ before) e a z rest ended c =
        (next, subst (λ x. Makes_step (slice_get code first) s x next) (sym a.result) (made s a.test), env_then next t before rest ended a.rest c)

    atomic_from : ((s : State) → b s ≡ true → Makes_step (slice_get code first) s (f s) next) → Below (Then (Atomic b f) (From next)) (From first)
    atomic_from made s ms ended (Within a) = atomic_within s ms false a refl
    atomic_from made s ms ended (Past before rest e a c) = subst (λ l. From first s l ended) (sym e) (atomic_past made s before true a refl rest ended c)

  -- a block that tests
  module _ (first yes_place no_place : ℕ) (b : State → Bool) (not_end : is_end (slice_get code first) ≡ false) (goes : (s t : State) (to : ℕ) → Makes_step (slice_get code first) s t to → (t ≡ s) × (to ≡ pick (b s) yes_place no_place)) (made : (s t : State) → t ≡ s → Makes_step (slice_get code first) s t (pick (b s) yes_place no_place)) where
    step_yes : (s t : State) → t ≡ s → b s ≡ true → Makes_step (slice_get code first) s t yes_place
    step_yes s t e h = subst (λ k. Makes_step (slice_get code first) s t k) (ap (λ v. pick v yes_place no_place) h) (made s t e)

    step_no : (s t : State) → t ≡ s → b s ≡ false → Makes_step (slice_get code first) s t no_place
    step_no s t e h = subst (λ k. Makes_step (slice_get code first) s t k) (ap (λ v. pick v yes_place no_place) h) (made s t e)

    module _ (next : ℕ) (A B : Behavior) where
      choice_own : Below (From yes_place) (Then A (From next)) → Below (From no_place) (Then B (From next)) → (s t : State) (ms : List ViewStep) (ended : Bool) (to : ℕ) → t ≡ s → (v : Bool) → b s ≡ v → to ≡ pick v yes_place no_place → From to t ms ended → Then (Choice b A B) (From next) s (Own t ∷ ms) ended
      choice_own on_yes on_no s t ms ended to e true h k c = then_own A (Choice b A B) (From next) s t (λ ms' e' a. Yes e h a) ms ended (on_yes t ms ended (subst (λ x. From x t ms ended) k c))
      choice_own on_yes on_no s t ms ended to e false h k c = then_own B (Choice b A B) (From next) s t (λ ms' e' a. No e h a) ms ended (on_no t ms ended (subst (λ x. From x t ms ended) k c))

      choice_to : Below (From yes_place) (Then A (From next)) → Below (From no_place) (Then B (From next)) → Below (From first) (Then (Choice b A B) (From next))
      choice_to on_yes on_no s [] ended c = subst (λ x. Then (Choice b A B) (From next) s [] x) (sym (c ∙ not_end)) (Within refl)
      choice_to on_yes on_no s (Env t ∷ ms) ended c = then_env (Choice b A B) (Choice b A B) (From next) s t (λ ms' e a. a) ms ended (choice_to on_yes on_no t ms ended c)
      choice_to on_yes on_no s (Own t ∷ ms) ended c =
          let h = goes s t c.0 c.1 in
          choice_own on_yes on_no s t ms ended c.0 h.0 (b s) refl h.1 c.2

      choice_within : Below (Then A (From next)) (From yes_place) → Below (Then B (From next)) (From no_place) → (s : State) (ms : List ViewStep) (ended : Bool) → Choice b A B s ms ended → ended ≡ false → From first s ms ended
      choice_within on_yes on_no s [] ended a z = z ∙ sym not_end
      choice_within on_yes on_no s (Env t ∷ ms) ended a z = choice_within on_yes on_no t ms ended a z
      choice_within on_yes on_no s (Own t ∷ ms) ended (Yes e h a) z =
          (yes_place, step_yes s t e h, subst (λ x. From yes_place t ms x) (sym z) (on_yes t ms false (Within (subst (λ x. A t ms x) z a))))
      choice_within on_yes on_no s (Own t ∷ ms) ended (No e h a) z =
          (no_place, step_no s t e h, subst (λ x. From no_place t ms x) (sym z) (on_no t ms false (Within (subst (λ x. B t ms x) z a))))

      choice_past : Below (Then A (From next)) (From yes_place) → Below (Then B (From next)) (From no_place) → (s : State) (before : List ViewStep) (e : Bool) → Choice b A B s before e → e ≡ true → (rest : List ViewStep) (ended : Bool) → From next (last s before) rest ended → From first s (before ++ rest) ended
      choice_past on_yes on_no s [] e a z rest ended c = cc (a, z)
      choice_past on_yes on_no s (Env t ∷ before) e a z rest ended c = choice_past on_yes on_no t before e a z rest ended c
      choice_past on_yes on_no s (Own t ∷ before) e (Yes q h a) z rest ended c =
          (yes_place, step_yes s t q h, on_yes t (before ++ rest) ended (Past before rest refl (subst (λ x. A t before x) z a) c))
      choice_past on_yes on_no s (Own t ∷ before) e (No q h a) z rest ended c =
          (no_place, step_no s t q h, on_no t (before ++ rest) ended (Past before rest refl (subst (λ x. B t before x) z a) c))

      choice_from : Below (Then A (From next)) (From yes_place) → Below (Then B (From next)) (From no_place) → Below (Then (Choice b A B) (From next)) (From first)
      choice_from on_yes on_no s ms ended (Within a) = choice_within on_yes on_no s ms false a refl
      choice_from on_yes on_no s ms ended (Past before rest e a c) = subst (λ l. From first s l ended) (sym e) (choice_past on_yes on_no s before true a refl rest ended c)

    -- the test of a loop, whose body leads back to it
    module _ (A : Behavior) where
      loop_join : (s t : State) (ms before rest : List ViewStep) (ended : Bool) → t ≡ s → b s ≡ true → ms ≡ before ++ rest → A t before true → Then (Loop b A) (From no_place) (last t before) rest ended → Then (Loop b A) (From no_place) s (Own t ∷ ms) ended
      loop_join s t ms before rest ended e h q a (Within l) = Within (Again before rest e h q a l)
      loop_join s t ms before rest ended e h q a (Past before2 rest2 q2 l c) =
          Past (Own t ∷ (before ++ before2)) rest2 (ap (λ l'. Own t ∷ l') (q ∙ ap (λ l'. before ++ l') q2 ∙ sym (append_assoc before before2 rest2))) (Again before before2 e h refl a l) (subst (λ x. From no_place x rest2 ended) (sym (last-append t before before2)) c)

      loop_body : (n : ℕ) (s t : State) (ms : List ViewStep) (ended : Bool) → length ms ≤ n → t ≡ s → b s ≡ true → ((s' : State) (rest : List ViewStep) → length rest ≤ n → From first s' rest ended → Then (Loop b A) (From no_place) s' rest ended) → Then A (From first) t ms ended → Then (Loop b A) (From no_place) s (Own t ∷ ms) ended
      loop_body n s t ms ended le e h rec (Within a) = Within (Inner e h a)
      loop_body n s t ms ended le e h rec (Past before rest q a c) =
          let shorter : length rest ≤ n = omega (arith, ap length q, length-append before rest) in
          loop_join s t ms before rest ended e h q a (rec (last t before) rest shorter c)

      loop_own : (n : ℕ) (s t : State) (ms : List ViewStep) (ended : Bool) (to : ℕ) → length ms ≤ n → Below (From yes_place) (Then A (From first)) → t ≡ s → ((s' : State) (rest : List ViewStep) → length rest ≤ n → From first s' rest ended → Then (Loop b A) (From no_place) s' rest ended) → (v : Bool) → b s ≡ v → to ≡ pick v yes_place no_place → From to t ms ended → Then (Loop b A) (From no_place) s (Own t ∷ ms) ended
      loop_own n s t ms ended to le body e rec true h k c = loop_body n s t ms ended le e h rec (body t ms ended (subst (λ x. From x t ms ended) k c))
      loop_own n s t ms ended to le body e rec false h k c = Past (Own t ∷ []) ms refl (Leave e h tt) (subst (λ x. From x t ms ended) k c)

      loop_to : Below (From yes_place) (Then A (From first)) → (n : ℕ) (s : State) (ms : List ViewStep) (ended : Bool) → length ms ≤ n → From first s ms ended → Then (Loop b A) (From no_place) s ms ended
      loop_to body n s [] ended le c = subst (λ x. Then (Loop b A) (From no_place) s [] x) (sym (c ∙ not_end)) (Within Idle)
      loop_to body zero s (Env t ∷ ms) ended le c = absurd (omega arith)
      loop_to body zero s (Own t ∷ ms) ended le c = absurd (omega arith)
      loop_to body (suc n) s (Env t ∷ ms) ended le c = then_env (Loop b A) (Loop b A) (From no_place) s t (λ ms' e a. Wait a) ms ended (loop_to body n t ms ended (omega arith) c)
      loop_to body (suc n) s (Own t ∷ ms) ended le c =
          let h = goes s t c.0 c.1 in
          loop_own n s t ms ended c.0 (omega arith) body h.0 (λ s' rest le' c'. loop_to body n s' rest ended le' c') (b s) refl h.1 c.2

      loop_within : Below (Then A (From first)) (From yes_place) → (s : State) (ms : List ViewStep) (ended : Bool) → Loop b A s ms ended → ended ≡ false → From first s ms ended
      loop_within body s ms ended Idle z = sym not_end
      loop_within body s ms ended (Wait {t = t} {ms = rest} run) z = loop_within body t rest ended run z
      loop_within body s ms ended (Leave e h a) z = cc z
      loop_within body s ms ended (Inner {t = t} {ms = rest} e h a) z = (yes_place, step_yes s t e h, body t rest false (Within a))
      loop_within body s ms ended (Again {t = t} {ms = all} before rest e h q a run) z =
          (yes_place, step_yes s t e h, body t all ended (Past before rest q a (loop_within body (last t before) rest ended run z)))

      loop_past : Below (Then A (From first)) (From yes_place) → (s : State) (ms : List ViewStep) (e : Bool) → Loop b A s ms e → e ≡ true → (rest : List ViewStep) (ended : Bool) → From no_place (last s ms) rest ended → From first s (ms ++ rest) ended
      loop_past body s ms e Idle z rest ended c = cc z
      loop_past body s ms e (Wait {t = t} {ms = inner} run) z rest ended c = loop_past body t inner e run z rest ended c
      loop_past body s ms e (Leave {t = t} {ms = inner} q h a) z rest ended c = (no_place, step_no s t q h, env_then no_place t inner rest ended a c)
      loop_past body s ms e (Inner q h a) z rest ended c = cc z
      loop_past body s ms e (Again {t = t} {ms = all} before inner q h j a run) z rest ended c =
          let c' = subst (λ x. From no_place x rest ended) (ap (λ l. last t l) j ∙ last-append t before inner) c in
          (yes_place, step_yes s t q h, body t (all ++ rest) ended (Past before (inner ++ rest) (ap (λ l. l ++ rest) j ∙ append_assoc before inner rest) a (loop_past body (last t before) inner e run z rest ended c')))

      loop_from : Below (Then A (From first)) (From yes_place) → Below (Then (Loop b A) (From no_place)) (From first)
      loop_from body s ms ended (Within l) = loop_within body s ms false l refl
      loop_from body s ms ended (Past before rest q l c) = subst (λ x. From first s x ended) (sym q) (loop_past body s before true l refl rest ended c)

-- how many blocks the code has
mutual
  pub length-code_of : (s : Statement) (first next : ℕ) → length (code_of s first next) ≡ count_of s
  length-code_of (skip row) first next = refl
  length-code_of (assign row a) first next = refl
  length-code_of (await row b act) first next = refl
  length-code_of (sequence row s items) first next =
      length-append (code_of s first (first + count_of s)) (code_of_items items (first + count_of s) next) ∙ (rw (length-code_of s first (first + count_of s), length-code_of_items items (first + count_of s) next) refl)
  length-code_of (branch row b s t) first next =
      ap suc (length-append (code_of s (suc first) next) (code_of t (suc first + count_of s) next) ∙ (rw (length-code_of s (suc first) next, length-code_of t (suc first + count_of s) next) refl))
  length-code_of (loop row b s) first next = ap suc (length-code_of s (suc first) first)

  length-code_of_items : (items : Items) (first next : ℕ) → length (code_of_items items first next) ≡ count_of_items items
  length-code_of_items (one s) first next = length-code_of s first next
  length-code_of_items (more s items) first next =
      length-append (code_of s first (first + count_of s)) (code_of_items items (first + count_of s) next) ∙ (rw (length-code_of s first (first + count_of s), length-code_of_items items (first + count_of s) next) refl)

module _ (code : List BlockTree) where
  -- the second stretch stands where the first ends
  second_stands : (first : ℕ) (s : Statement) (at next : ℕ) (rest : List BlockTree) → at ≡ first + count_of s → Stands code first (code_of s first next ++ rest) → Stands code at rest
  second_stands first s at next rest e h =
      subst (λ k. Stands code k rest) (ap (λ n. first + n) (length-code_of s first next) ∙ sym e) (stands_back code first (code_of s first next) rest h)

  -- one state after stores is the state after the assignments
  stored_is : (act : List Assignment) (s t : State) → stored (map store_of act) s ≡ Some t → t ≡ assigned act s
  stored_is act s t h = let e = stored_assigned act s in cc (e, h)

  block_to : (row first next : ℕ) (b : Proposition) (act : List Assignment) → slice_get code first ≡ Some (await_block row next (formula_operations b) (map store_of act)) → Below (From code first) (Then (Atomic (holds_at b) (assigned act)) (From code next))
  block_to row first next b act at =
      atomic_to code first next (holds_at b) (assigned act) (ap is_end at)
      (λ s t to m. let m' = subst (λ o. Makes_step o s t to) at m in
      let g = reported_formula b s in
      (cc (g, m'.0), stored_is act s t m'.1, m'.2))

  block_from : (row first next : ℕ) (b : Proposition) (act : List Assignment) → slice_get code first ≡ Some (await_block row next (formula_operations b) (map store_of act)) → Below (Then (Atomic (holds_at b) (assigned act)) (From code next)) (From code first)
  block_from row first next b act at =
      atomic_from code first next (holds_at b) (assigned act) (ap is_end at)
      (λ s h. subst (λ o. Makes_step o s (assigned act s) next) (sym at) (reported_formula b s ∙ ap (λ v. Some v) h, stored_assigned act s, refl))

  do_to : (row first next : ℕ) (act : List Assignment) → slice_get code first ≡ Some (do_block row next (map store_of act)) → Below (From code first) (Then (Atomic always (assigned act)) (From code next))
  do_to row first next act at =
      atomic_to code first next always (assigned act) (ap is_end at)
      (λ s t to m. let m' = subst (λ o. Makes_step o s t to) at m in (refl, stored_is act s t m'.0, m'.1))

  do_from : (row first next : ℕ) (act : List Assignment) → slice_get code first ≡ Some (do_block row next (map store_of act)) → Below (Then (Atomic always (assigned act)) (From code next)) (From code first)
  do_from row first next act at =
      atomic_from code first next always (assigned act) (ap is_end at)
      (λ s h. subst (λ o. Makes_step o s (assigned act s) next) (sym at) (stored_assigned act s, refl))

  test_place : (b : Proposition) (yes_place no_place : ℕ) (s : State) → option_map (λ v. if v then yes_place else no_place) (reported_by (formula_operations b) s) ≡ Some (pick (holds_at b s) yes_place no_place)
  test_place b yes_place no_place s = ap (λ o. option_map (λ v. if v then yes_place else no_place) o) (reported_formula b s)

  test_goes : (row first yes_place no_place : ℕ) (b : Proposition) → slice_get code first ≡ Some (test_block row yes_place no_place (formula_operations b)) → (s t : State) (to : ℕ) → Makes_step (slice_get code first) s t to → (t ≡ s) × (to ≡ pick (holds_at b s) yes_place no_place)
  test_goes row first yes_place no_place b at s t to m =
      let m' = subst (λ o. Makes_step o s t to) at m in
      let e = test_place b yes_place no_place s in
      (m'.0, cc (e, m'.1))

  test_made : (row first yes_place no_place : ℕ) (b : Proposition) → slice_get code first ≡ Some (test_block row yes_place no_place (formula_operations b)) → (s t : State) → t ≡ s → Makes_step (slice_get code first) s t (pick (holds_at b s) yes_place no_place)
  test_made row first yes_place no_place b at s t e =
      subst (λ o. Makes_step o s t (pick (holds_at b s) yes_place no_place)) (sym at) (e, test_place b yes_place no_place s)

  mutual
    stmt_to : (s : Statement) (first next : ℕ) → Stands code first (code_of s first next) → Below (From code first) (Then (runs s) (From code next))
    stmt_to (skip row) first next h = do_to row first next [] (stands_get code first _ _ h)
    stmt_to (assign row a) first next h = do_to row first next (a ∷ []) (stands_get code first _ _ h)
    stmt_to (await row b act) first next h = block_to row first next b act (stands_get code first _ _ h)
    stmt_to (sequence row s items) first next h =
        let mid = first + count_of s in
        λ x ms ended c. then_assoc_left (runs s) (runs_of_items items) (From code next) x ms ended (then_map (runs s) (From code mid) (Then (runs_of_items items) (From code next)) (items_to items mid next (second_stands first s mid mid _ refl h)) x ms ended (stmt_to s first mid (stands_front code first (code_of s first mid) _ h) x ms ended c))
    stmt_to (branch row b s t) first next h =
        let at = stands_get code first _ _ h in
        let below = stands_tail code first _ _ h in
        let no_place = suc first + count_of s in
        choice_to code first (suc first) no_place (holds_at b) (ap is_end at) (test_goes row first (suc first) no_place b at) (test_made row first (suc first) no_place b at) next (runs s) (runs t) (stmt_to s (suc first) next (stands_front code (suc first) (code_of s (suc first) next) _ below)) (stmt_to t no_place next (second_stands (suc first) s no_place next _ refl below))
    stmt_to (loop row b s) first next h =
        let at = stands_get code first _ _ h in
        λ x ms ended c. loop_to code first (suc first) next (holds_at b) (ap is_end at) (test_goes row first (suc first) next b at) (test_made row first (suc first) next b at) (runs s) (stmt_to s (suc first) first (stands_tail code first _ _ h)) (length ms) x ms ended (omega arith) c

    items_to : (items : Items) (first next : ℕ) → Stands code first (code_of_items items first next) → Below (From code first) (Then (runs_of_items items) (From code next))
    items_to (one s) first next h = stmt_to s first next h
    items_to (more s items) first next h =
        let mid = first + count_of s in
        λ x ms ended c. then_assoc_left (runs s) (runs_of_items items) (From code next) x ms ended (then_map (runs s) (From code mid) (Then (runs_of_items items) (From code next)) (items_to items mid next (second_stands first s mid mid _ refl h)) x ms ended (stmt_to s first mid (stands_front code first (code_of s first mid) _ h) x ms ended c))

  mutual
    stmt_from : (s : Statement) (first next : ℕ) → Stands code first (code_of s first next) → Below (Then (runs s) (From code next)) (From code first)
    stmt_from (skip row) first next h = do_from row first next [] (stands_get code first _ _ h)
    stmt_from (assign row a) first next h = do_from row first next (a ∷ []) (stands_get code first _ _ h)
    stmt_from (await row b act) first next h = block_from row first next b act (stands_get code first _ _ h)
    stmt_from (sequence row s items) first next h =
        let mid = first + count_of s in
        λ x ms ended c. stmt_from s first mid (stands_front code first (code_of s first mid) _ h) x ms ended (then_map (runs s) (Then (runs_of_items items) (From code next)) (From code mid) (items_from items mid next (second_stands first s mid mid _ refl h)) x ms ended (then_assoc_right (runs s) (runs_of_items items) (From code next) x ms ended c))
    stmt_from (branch row b s t) first next h =
        let at = stands_get code first _ _ h in
        let below = stands_tail code first _ _ h in
        let no_place = suc first + count_of s in
        choice_from code first (suc first) no_place (holds_at b) (ap is_end at) (test_goes row first (suc first) no_place b at) (test_made row first (suc first) no_place b at) next (runs s) (runs t) (stmt_from s (suc first) next (stands_front code (suc first) (code_of s (suc first) next) _ below)) (stmt_from t no_place next (second_stands (suc first) s no_place next _ refl below))
    stmt_from (loop row b s) first next h =
        let at = stands_get code first _ _ h in
        loop_from code first (suc first) next (holds_at b) (ap is_end at) (test_goes row first (suc first) next b at) (test_made row first (suc first) next b at) (runs s) (stmt_from s (suc first) first (stands_tail code first _ _ h))

    items_from : (items : Items) (first next : ℕ) → Stands code first (code_of_items items first next) → Below (Then (runs_of_items items) (From code next)) (From code first)
    items_from (one s) first next h = stmt_from s first next h
    items_from (more s items) first next h =
        let mid = first + count_of s in
        λ x ms ended c. stmt_from s first mid (stands_front code first (code_of s first mid) _ h) x ms ended (then_map (runs s) (Then (runs_of_items items) (From code next)) (From code mid) (items_from items mid next (second_stands first s mid mid _ refl h)) x ms ended (then_assoc_right (runs s) (runs_of_items items) (From code next) x ms ended c))

-- at the end of a part's code only the environment goes on
end_env : (code : List BlockTree) (k : ℕ) → slice_get code k ≡ Some end_block → (s : State) (ms : List ViewStep) (ended : Bool) → CodeRuns code k s ms ended → AllEnv ms × (ended ≡ true)
end_env code k at s [] ended c = (tt, c ∙ ap is_end at)
end_env code k at s (Env t ∷ ms) ended c = end_env code k at t ms ended c
end_env code k at s (Own t ∷ ms) ended c = absurd (subst (λ o. Makes_step o s t c.0) at c.1)

module _ (body : Statement) where
  part_stands : Stands (part_code body) 0 (code_of body 0 (count_of body))
  part_stands = (end_block ∷ [], refl)

  end_stands : slice_get (part_code body) (count_of body) ≡ Some end_block
  end_stands =
      let all : Stands (part_code body) 0 (code_of body 0 (count_of body) ++ end_block ∷ []) = ([], sym (append-nil _)) in
      stands_get (part_code body) (count_of body) end_block [] (second_stands (part_code body) 0 body (count_of body) (count_of body) (end_block ∷ []) (omega arith) all)

  drop_end : (s : State) (ms : List ViewStep) (ended : Bool) → Then (runs body) (From (part_code body) (count_of body)) s ms ended → runs body s ms ended
  drop_end s ms ended (Within a) = a
  drop_end s ms ended (Past before rest e a c) =
      let h = end_env (part_code body) (count_of body) end_stands (last s before) rest ended c in
      subst (λ l. runs body s l ended) (sym e) (subst (λ x. runs body s (before ++ rest) x) (sym h.1) (runs_tails body s before rest a h.0))

  add_end : (s : State) (ms : List ViewStep) (ended : Bool) → runs body s ms ended → Then (runs body) (From (part_code body) (count_of body)) s ms ended
  add_end s ms true a = Past ms [] (sym (append-nil ms)) a (sym (ap is_end end_stands))
  add_end s ms false a = Within a

  -- a run of the part's code is a run of its body, and the other way round
  pub part_to : Below (From (part_code body) 0) (runs body)
  part_to s ms ended c = drop_end s ms ended (stmt_to (part_code body) body 0 (count_of body) part_stands s ms ended c)

  pub part_from : Below (runs body) (From (part_code body) 0)
  part_from s ms ended a = stmt_from (part_code body) body 0 (count_of body) part_stands s ms ended (add_end s ms ended a)
