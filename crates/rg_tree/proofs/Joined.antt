-- The two readings of the runs of a statement are one.
use Rattle.std.proofs.Common.{◌≡◌, ℕ, Bool, true, false, List, [], ◌∷◌, ◌++◌, ◌⊎◌, inl, inr, refl, sym, subst, ap}
use Rattle.std.proofs.lemmas.List.{append-nil}
use Rattle.rg_tree.specs.Trees.{Proposition}
use Rattle.rg_tree.specs.Statements.{Statement, skip, assign, await, sequence, branch, loop, Items, one, more}
use Rattle.rg_tree.specs.ConditionTrees.{assigned}
use Rattle.rg_tree.specs.Traces.{State, holds_at}
use Rattle.rg_tree.specs.Traces.{ViewStep, Own, Env, last}
use Rattle.rg_tree.specs.Runs.{Behavior, AllEnv, Once, Acts, Then, Within, Past, Tests, Yes, No, Loop, Idle, Wait, Leave, Inner, Again, runs, runs_of_items, always}
use Rattle.rg_tree.specs.Joined.{IsSplit, Run, RunItems, Waiting, Skipped, Was_set, Awaited, In_seq, On_yes, On_no, Left, In_body, Turned, In_last, In_first, In_later, RunsAreJoins}

-- a run that has not begun

once_idle : (next : State → State → List ViewStep → Bool → Type 0) (s : State) (ms : List ViewStep) → AllEnv ms → Once next s ms false
once_idle next s [] a = refl
once_idle next s (Env t ∷ ms) a = once_idle next t ms a
once_idle next s (Own t ∷ ms) a = absurd a

loop_idle : (b : State → Bool) (A : Behavior) (s : State) (ms : List ViewStep) → AllEnv ms → Loop b A s ms false
loop_idle b A s [] a = Idle
loop_idle b A s (Env t ∷ ms) a = Wait (loop_idle b A t ms a)
loop_idle b A s (Own t ∷ ms) a = absurd a

mutual
  pub runs_idle : (stmt : Statement) (s : State) (ms : List ViewStep) → AllEnv ms → runs stmt s ms false
  runs_idle (skip n) = once_idle (Acts always (assigned []))
  runs_idle (assign n a) = once_idle (Acts always (assigned (a ∷ [])))
  runs_idle (await n b act) = once_idle (Acts (holds_at b) (assigned act))
  runs_idle (sequence n first items) = λ s ms a. Within (runs_idle first s ms a)
  runs_idle (branch n b x y) = once_idle (Tests (holds_at b) (runs x) (runs y))
  runs_idle (loop n b x) = loop_idle (holds_at b) (runs x)

  items_idle : (items : Items) (s : State) (ms : List ViewStep) → AllEnv ms → runs_of_items items s ms false
  items_idle (one x) = runs_idle x
  items_idle (more x items) = λ s ms a. Within (runs_idle x s ms a)

-- one own step after the environment's

once_in : (next : State → State → List ViewStep → Bool → Type 0) (s : State) (before : List ViewStep) (t : State) (after : List ViewStep) (ended : Bool) → AllEnv before → next (last s before) t after ended → Once next s (before ++ Own t ∷ after) ended
once_in next s [] t after ended a n = n
once_in next s (Env u ∷ before) t after ended a n = once_in next u before t after ended a n
once_in next s (Own u ∷ before) t after ended a n = absurd a

once_split : (next : State → State → List ViewStep → Bool → Type 0) (s : State) (ms before : List ViewStep) (t : State) (after : List ViewStep) (ended : Bool) → IsSplit s ms before t after → next (last s before) t after ended → Once next s ms ended
once_split next s ms before t after ended w n = subst (λ l. Once next s l ended) (sym w.whole) (once_in next s before t after ended w.waits n)

loop_in : (b : State → Bool) (A : Behavior) (s : State) (before ms : List ViewStep) (ended : Bool) → AllEnv before → Loop b A (last s before) ms ended → Loop b A s (before ++ ms) ended
loop_in b A s [] ms ended a l = l
loop_in b A s (Env u ∷ before) ms ended a l = Wait (loop_in b A u before ms ended a l)
loop_in b A s (Own u ∷ before) ms ended a l = absurd a

loop_split : (b : State → Bool) (A : Behavior) (s : State) (ms before : List ViewStep) (t : State) (after : List ViewStep) (ended : Bool) → IsSplit s ms before t after → Loop b A (last s before) (Own t ∷ after) ended → Loop b A s ms ended
loop_split b A s ms before t after ended w l = subst (λ x. Loop b A s x ended) (sym w.whole) (loop_in b A s before (Own t ∷ after) ended w.waits l)

inner_any : (b : State → Bool) (A : Behavior) (s : State) (ms : List ViewStep) (ended : Bool) → b s ≡ true → A s ms ended → Loop b A s (Own s ∷ ms) false
inner_any b A s ms true h a = Again ms [] refl h (sym (append-nil ms)) a Idle
inner_any b A s ms false h a = Inner refl h a

first_any : (A : Behavior) (items : Items) (s : State) (ms : List ViewStep) (ended : Bool) → A s ms ended → Then A (runs_of_items items) s ms false
first_any A items s ms true a = Past ms [] (sym (append-nil ms)) a (items_idle items (last s ms) [] tt)
first_any A items s ms false a = Within a

mutual
  to : {stmt : Statement} {s : State} {ms : List ViewStep} {ended : Bool} → Run stmt s ms ended → runs stmt s ms ended
  to (Waiting {stmt = stmt} {s = s} {ms = ms} a) = runs_idle stmt s ms a
  to (Skipped {s = s} {ms = ms} before after w a) = once_split _ s ms before (last s before) after true w (record { test = refl; result = refl; rest = a; over = refl })
  to (Was_set {a = x} {s = s} {ms = ms} before after w a) = once_split _ s ms before _ after true w (record { test = refl; result = refl; rest = a; over = refl })
  to (Awaited {s = s} {ms = ms} before after w h a) = once_split _ s ms before _ after true w (record { test = h; result = refl; rest = a; over = refl })
  to (In_seq r) = items_to r
  to (On_yes {s = s} {ms = ms} {ended = ended} before after w h r) = once_split _ s ms before _ after ended w (Yes refl h (to r))
  to (On_no {s = s} {ms = ms} {ended = ended} before after w h r) = once_split _ s ms before _ after ended w (No refl h (to r))
  to (Left {b = b} {body = body} {s = s} {ms = ms} before after w h a) = loop_split (holds_at b) (runs body) s ms before (last s before) after true w (Leave refl h a)
  to (In_body {b = b} {body = body} {s = s} {ms = ms} {ended = ended} before after w h r) = loop_split (holds_at b) (runs body) s ms before (last s before) after false w (inner_any (holds_at b) (runs body) (last s before) after ended h (to r))
  to (Turned {b = b} {body = body} {s = s} {ms = ms} {ended = ended} before turn rest w h r l) = loop_split (holds_at b) (runs body) s ms before (last s before) (turn ++ rest) ended w (Again turn rest refl h refl (to r) (to l))

  items_to : {items : Items} {s : State} {ms : List ViewStep} {ended : Bool} → RunItems items s ms ended → runs_of_items items s ms ended
  items_to (In_last r) = to r
  items_to (In_first {stmt = stmt} {items = items} {s = s} {ms = ms} {ended = ended} r) = first_any (runs stmt) items s ms ended (to r)
  items_to (In_later before rest e r l) = Past before rest e (to r) (items_to l)

split_env : {s u t : State} {ms before after : List ViewStep} → IsSplit u ms before t after → IsSplit s (Env u ∷ ms) (Env u ∷ before) t after
split_env {u = u} w = record { whole = ap (λ l. Env u ∷ l) w.whole; waits = w.waits }

once_out : (next : State → State → List ViewStep → Bool → Type 0) (s : State) (ms : List ViewStep) (ended : Bool) → Once next s ms ended → (AllEnv ms × (ended ≡ false)) ⊎ ((before : List ViewStep) × (t : State) × (after : List ViewStep) × IsSplit s ms before t after × next (last s before) t after ended)
once_out next s [] ended a = inl (tt, a)
once_out next s (Own t ∷ ms) ended a = inr ([], t, ms, record { whole = refl; waits = tt }, a)
once_out next s (Env u ∷ ms) ended a =
    elim (once_out next u ms ended a) [ inl l ↦ inl l | inr r ↦ inr (Env u ∷ r.0, r.1, r.2, split_env r.3, r.4) ]

waiting : (stmt : Statement) (s : State) (ms : List ViewStep) (ended : Bool) → AllEnv ms × (ended ≡ false) → Run stmt s ms ended
waiting stmt s ms ended h = subst (λ e. Run stmt s ms e) (sym h.1) (Waiting h.0)

split_at : {s t t' : State} {ms before after : List ViewStep} → t ≡ t' → IsSplit s ms before t after → IsSplit s ms before t' after
split_at {s = s} {ms = ms} {before = before} {after = after} e w = subst (λ x. IsSplit s ms before x after) e w

-- one more step of the environment in front of a loop's run
loop_wait : {n : ℕ} {b : Proposition} {body : Statement} {s u : State} {ms : List ViewStep} {ended : Bool} → Run (loop n b body) u ms ended → Run (loop n b body) s (Env u ∷ ms) ended
loop_wait (Waiting a) = Waiting a
loop_wait {u = u} (Left before after w h a) = Left (Env u ∷ before) after (split_env w) h a
loop_wait {u = u} (In_body before after w h r) = In_body (Env u ∷ before) after (split_env w) h r
loop_wait {u = u} (Turned before turn rest w h r l) = Turned (Env u ∷ before) turn rest (split_env w) h r l

first_step : (s t : State) (ms : List ViewStep) → t ≡ s → IsSplit s (Own t ∷ ms) [] s ms
first_step s t ms e = record { whole = ap (λ x. Own x ∷ ms) e; waits = tt }

loop_from : (n : ℕ) (b : Proposition) (body : Statement) → ((s : State) (ms : List ViewStep) (ended : Bool) → runs body s ms ended → Run body s ms ended) → (s : State) (ms : List ViewStep) (ended : Bool) → Loop (holds_at b) (runs body) s ms ended → Run (loop n b body) s ms ended
loop_from n b body f s ms ended Idle = Waiting tt
loop_from n b body f s ms ended (Wait {t = t} {ms = inner} run) = loop_wait (loop_from n b body f t inner ended run)
loop_from n b body f s ms ended (Leave {t = t} {ms = inner} e h a) = Left [] inner (first_step s t inner e) h a
loop_from n b body f s ms ended (Inner {t = t} {ms = inner} e h a) =
    In_body [] inner (first_step s t inner e) h (f s inner false (subst (λ x. runs body x inner false) e a))
loop_from n b body f s ms ended (Again {t = t} {ms = inner} before rest e h q a run) =
    Turned [] before rest (subst (λ l. IsSplit s (Own t ∷ inner) [] s l) q (first_step s t inner e)) h (f s before true (subst (λ x. runs body x before true) e a)) (subst (λ x. Run (loop n b body) (last x before) rest ended) e (loop_from n b body f (last t before) rest ended run))

choice_from : (n : ℕ) (b : Proposition) (x y : Statement) (s : State) (ms : List ViewStep) (ended : Bool) (before : List ViewStep) (t : State) (after : List ViewStep) → IsSplit s ms before t after → Tests (holds_at b) (runs x) (runs y) (last s before) t after ended → ((s : State) (ms : List ViewStep) (ended : Bool) → runs x s ms ended → Run x s ms ended) → ((s : State) (ms : List ViewStep) (ended : Bool) → runs y s ms ended → Run y s ms ended) → Run (branch n b x y) s ms ended
choice_from n b x y s ms ended before t after w (Yes e h a) fx fy =
    On_yes before after (split_at e w) h (fx (last s before) after ended (subst (λ z. runs x z after ended) e a))
choice_from n b x y s ms ended before t after w (No e h a) fx fy =
    On_no before after (split_at e w) h (fy (last s before) after ended (subst (λ z. runs y z after ended) e a))

mutual
  from : (stmt : Statement) (s : State) (ms : List ViewStep) (ended : Bool) → runs stmt s ms ended → Run stmt s ms ended
  from (skip n) s ms ended r =
      elim (once_out (Acts always (assigned [])) s ms ended r) [ inl l ↦ waiting (skip n) s ms ended l | inr x ↦ let acts = x.4 in subst (λ e. Run (skip n) s ms e) (sym acts.over) (Skipped x.0 x.2 (split_at acts.result x.3) acts.rest) ]
  from (assign n a) s ms ended r =
      elim (once_out (Acts always (assigned (a ∷ []))) s ms ended r) [ inl l ↦ waiting (assign n a) s ms ended l | inr x ↦ let acts = x.4 in subst (λ e. Run (assign n a) s ms e) (sym acts.over) (Was_set x.0 x.2 (split_at acts.result x.3) acts.rest) ]
  from (await n b act) s ms ended r =
      elim (once_out (Acts (holds_at b) (assigned act)) s ms ended r) [ inl l ↦ waiting (await n b act) s ms ended l | inr x ↦ let acts = x.4 in subst (λ e. Run (await n b act) s ms e) (sym acts.over) (Awaited x.0 x.2 (split_at acts.result x.3) acts.test acts.rest) ]
  from (sequence n first items) s ms ended (Within a) = In_seq (In_first (from first s ms false a))
  from (sequence n first items) s ms ended (Past before rest e a b) = In_seq (In_later before rest e (from first s before true a) (items_from items (last s before) rest ended b))
  from (branch n b x y) s ms ended r =
      elim (once_out (Tests (holds_at b) (runs x) (runs y)) s ms ended r) [ inl l ↦ waiting (branch n b x y) s ms ended l | inr z ↦ choice_from n b x y s ms ended z.0 z.1 z.2 z.3 z.4 (λ s' ms' e' r'. from x s' ms' e' r') (λ s' ms' e' r'. from y s' ms' e' r') ]
  from (loop n b x) s ms ended r = loop_from n b x (λ s' ms' e' r'. from x s' ms' e' r') s ms ended r

  items_from : (items : Items) (s : State) (ms : List ViewStep) (ended : Bool) → runs_of_items items s ms ended → RunItems items s ms ended
  items_from (one x) s ms ended r = In_last (from x s ms ended r)
  items_from (more x items) s ms ended (Within a) = In_first (from x s ms false a)
  items_from (more x items) s ms ended (Past before rest e a b) = In_later before rest e (from x s before true a) (items_from items (last s before) rest ended b)

pub runs_are_joins : RunsAreJoins
runs_are_joins stmt s ms ended = (λ r. to r, λ r. from stmt s ms ended r)
