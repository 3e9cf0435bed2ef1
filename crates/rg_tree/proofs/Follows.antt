-- Following a trace decides the runs of a statement.
use Rattle.std.proofs.Common.{◌≡◌, ℕ, Bool, true, false, ◌&&◌, List, [], ◌∷◌, ◌++◌, Option, Some, None, ◌⊎◌, inl, inr, refl, sym, subst, ap, ◌∙◌, ⊎_elim, append_assoc}
use Rattle.std.proofs.lemmas.List.{append-nil}
use Rattle.std.proofs.lemmas.Bool.{eq-eqb, eqb-true}
use Rattle.std.specs.Prelude.{◌==◌, if◌then◌else◌, option_and_then}
use Rattle.rg_tree.specs.Trees.{Proposition}
use Rattle.rg_tree.specs.Statements.{Statement, skip, assign, await, sequence, branch, loop, Items, one, more}
use Rattle.rg_tree.specs.ConditionTrees.{assigned}
use Rattle.rg_tree.specs.Traces.{State, holds_at}
use Rattle.rg_tree.specs.Traces.{ViewStep, Own, Env, last}
use Rattle.rg_tree.specs.Runs.{Behavior, AllEnv, Atomic, Then, Within, Past, Yes, No, Choice, Loop, Idle, Wait, Leave, Inner, Again, runs, runs_of_items, always}
use Rattle.rg_tree.specs.Following.{same_state, list_of, step_of, followed, FollowingDecides}
use Rattle.rg_tree.proofs.Guards.{last-append}
use Rattle.rg_tree.proofs.Joins.{Below, then_map, then_assoc_left, then_assoc_right, then_env, then_own, runs_tails}
use Rattle.rg_tree.proofs.Joined.{runs_idle}

same_yes : (xs ys : State) → xs ≡ ys → same_state xs ys ≡ true
same_yes xs ys e = subst (λ l. same_state xs l ≡ true) e (same_refl xs)
  where
    same_refl : (xs : State) → same_state xs xs ≡ true
    same_refl [] = refl
    same_refl (x ∷ xs) = rw (eq-eqb x x refl, same_refl xs) refl

and_left : (a b : Bool) → (a && b) ≡ true → a ≡ true
and_left true b h = refl
and_left false b h = cc h

and_right : (a b : Bool) → (a && b) ≡ true → b ≡ true
and_right true b h = h
and_right false b h = cc h

same_eq : (xs ys : State) → same_state xs ys ≡ true → xs ≡ ys
same_eq [] [] h = refl
same_eq (x ∷ xs) (y ∷ ys) h =
    let first = eqb-true x y (and_left (x == y) (same_state xs ys) h) in
    let rest = same_eq xs ys (and_right (x == y) (same_state xs ys) h) in
    cc
same_eq [] (y ∷ ys) h = cc h
same_eq (x ∷ xs) [] h = cc h

-- no ended run is empty

then_not_empty : (A B : Behavior) → ((s : State) → A s [] true → ⊥) → (s : State) (ms : List ViewStep) (ended : Bool) → Then A B s ms ended → ms ≡ [] → ended ≡ false
then_not_empty A B h s ms ended (Within a) e = refl
then_not_empty A B h s ms ended (Past [] rest q a b) e = absurd (h s a)
then_not_empty A B h s ms ended (Past (m ∷ before) rest q a b) e = cc (q, e)

loop_not_empty : (b : State → Bool) (A : Behavior) (s : State) (ms : List ViewStep) (ended : Bool) → Loop b A s ms ended → ms ≡ [] → ended ≡ false
loop_not_empty b A s ms ended Idle e = refl
loop_not_empty b A s ms ended (Wait run) e = cc e
loop_not_empty b A s ms ended (Leave q h a) e = cc e
loop_not_empty b A s ms ended (Inner q h a) e = refl
loop_not_empty b A s ms ended (Again before rest q h j a run) e = cc e

not_empty : (x : Statement) (s : State) → runs x s [] true → ⊥
not_empty (skip n) s r = cc r
not_empty (assign n a) s r = cc r
not_empty (await n b act) s r = cc r
not_empty (sequence n a items) s r = cc (then_not_empty (runs a) (runs_of_items items) (not_empty a) s [] true r refl)
not_empty (branch n b x y) s r = cc r
not_empty (loop n b x) s r = cc (loop_not_empty (holds_at b) (runs x) s [] true r refl)

-- a step of the environment in front, put and taken off

then_strip : (A B : Behavior) (s t : State) → ((s : State) → A s [] true → ⊥) → ((u : State) (ms : List ViewStep) (ended : Bool) → A s (Env u ∷ ms) ended → A u ms ended) → (ms : List ViewStep) (ended : Bool) → Then A B s (Env t ∷ ms) ended → Then A B t ms ended
then_strip A B s t no_empty strip ms ended (Within a) = Within (strip t ms false a)
then_strip A B s t no_empty strip ms ended (Past [] rest q a b) = absurd (no_empty s a)
then_strip A B s t no_empty strip ms ended (Past (Own u ∷ before) rest q a b) = cc q
then_strip A B s t no_empty strip ms ended (Past (Env u ∷ before) rest q a b) =
    let same : u ≡ t = cc q in
    let back : ms ≡ before ++ rest = cc q in
    Past before rest back (subst (λ x. A x before true) same (strip u before true a)) (subst (λ x. B (last x before) rest ended) same b)

loop_strip : (b : State → Bool) (A : Behavior) (s t : State) (ms : List ViewStep) (ended : Bool) → Loop b A s (Env t ∷ ms) ended → Loop b A t ms ended
loop_strip b A s t ms ended (Wait run) = run

runs_strip : (x : Statement) (s t : State) (ms : List ViewStep) (ended : Bool) → runs x s (Env t ∷ ms) ended → runs x t ms ended
runs_strip (skip n) s t ms ended r = r
runs_strip (assign n a) s t ms ended r = r
runs_strip (await n b act) s t ms ended r = r
runs_strip (sequence n a items) s t ms ended r = then_strip (runs a) (runs_of_items items) s t (not_empty a) (λ u l e. runs_strip a s u l e) ms ended r
runs_strip (branch n b x y) s t ms ended r = r
runs_strip (loop n b x) s t ms ended r = loop_strip (holds_at b) (runs x) s t ms ended r

runs_put : (x : Statement) (s t : State) (ms : List ViewStep) (ended : Bool) → runs x t ms ended → runs x s (Env t ∷ ms) ended
runs_put (skip n) s t ms ended r = r
runs_put (assign n a) s t ms ended r = r
runs_put (await n b act) s t ms ended r = r
runs_put (sequence n a items) s t ms ended r = then_env (runs a) (runs a) (runs_of_items items) s t (λ l e. runs_put a s t l e) ms ended r
runs_put (branch n b x y) s t ms ended r = r
runs_put (loop n b x) s t ms ended r = Wait r

-- what a list of statements does, one after another
abbrev Rest : List Statement → State → List ViewStep → Bool → Type 0
Rest [] s ms ended = AllEnv ms × (ended ≡ true)
Rest (x ∷ k) s ms ended = Then (runs x) (Rest k) s ms ended

rest_put : (k : List Statement) (s t : State) (ms : List ViewStep) (ended : Bool) → Rest k t ms ended → Rest k s (Env t ∷ ms) ended
rest_put [] s t ms ended r = r
rest_put (x ∷ k) s t ms ended r = then_env (runs x) (runs x) (Rest k) s t (λ l e. runs_put x s t l e) ms ended r

rest_strip : (k : List Statement) (s t : State) (ms : List ViewStep) (ended : Bool) → Rest k s (Env t ∷ ms) ended → Rest k t ms ended
rest_strip [] s t ms ended r = r
rest_strip (x ∷ k) s t ms ended r = then_strip (runs x) (Rest k) s t (not_empty x) (λ u l e. runs_strip x s u l e) ms ended r

-- a behavior that the environment may delay
abbrev Waits : Behavior → Type 0
Waits K = (s : State) (before rest : List ViewStep) (ended : Bool) → AllEnv before → K (last s before) rest ended → K s (before ++ rest) ended

rest_waits : (k : List Statement) → Waits (Rest k)
rest_waits k s [] rest ended a r = r
rest_waits k s (Own t ∷ before) rest ended a r = absurd a
rest_waits k s (Env t ∷ before) rest ended a r = rest_put k s t (before ++ rest) ended (rest_waits k t before rest ended a r)

-- the laws of an own step

module _ (K : Behavior) (waits : Waits K) (s t : State) (ms : List ViewStep) where
  act_to : (b : State → Bool) (f : State → State) (ended : Bool) → Then (Atomic b f) K s (Own t ∷ ms) ended → (b s ≡ true) × (t ≡ f s) × K t ms ended
  act_to b f ended (Within a) = let w = a.over in cc w
  act_to b f ended (Past [] rest q a c) = cc a
  act_to b f ended (Past (Env u ∷ before) rest q a c) = cc q
  act_to b f ended (Past (Own u ∷ before) rest q a c) =
      let same : u ≡ t = cc q in
      let back : before ++ rest ≡ ms = cc q in
      (a.test, sym same ∙ a.result, subst (λ l. K t l ended) back (subst (λ x. K x (before ++ rest) ended) same (waits u before rest ended a.rest c)))

  act_from : (b : State → Bool) (f : State → State) (ended : Bool) → b s ≡ true → t ≡ f s → K t ms ended → Then (Atomic b f) K s (Own t ∷ ms) ended
  act_from b f ended h e c = Past (Own t ∷ []) ms refl (record { test = h; result = e; rest = tt; over = refl }) c

  choice_to : (b : State → Bool) (A B : Behavior) (ended : Bool) → Then (Choice b A B) K s (Own t ∷ ms) ended → (t ≡ s) × (((b s ≡ true) × Then A K t ms ended) ⊎ ((b s ≡ false) × Then B K t ms ended))
  choice_to b A B ended (Within (Yes e h a)) = (e, inl (h, Within a))
  choice_to b A B ended (Within (No e h a)) = (e, inr (h, Within a))
  choice_to b A B ended (Past [] rest q a c) = cc a
  choice_to b A B ended (Past (Env u ∷ before) rest q a c) = cc q
  choice_to b A B ended (Past (Own u ∷ before) rest q (Yes e h a) c) =
      let same : u ≡ t = cc q in
      let back : ms ≡ before ++ rest = cc q in
      (sym same ∙ e, inl (h, Past before rest back (subst (λ x. A x before true) same a) (subst (λ x. K (last x before) rest ended) same c)))
  choice_to b A B ended (Past (Own u ∷ before) rest q (No e h a) c) =
      let same : u ≡ t = cc q in
      let back : ms ≡ before ++ rest = cc q in
      (sym same ∙ e, inr (h, Past before rest back (subst (λ x. B x before true) same a) (subst (λ x. K (last x before) rest ended) same c)))

  loop_to : (b : State → Bool) (A : Behavior) (ended : Bool) → Then (Loop b A) K s (Own t ∷ ms) ended → (t ≡ s) × (((b s ≡ true) × Then A (Then (Loop b A) K) t ms ended) ⊎ ((b s ≡ false) × K t ms ended))
  loop_to b A ended (Within (Inner e h a)) = (e, inl (h, Within a))
  loop_to b A ended (Within (Again before rest e h j a run)) = (e, inl (h, Past before rest j a (Within run)))
  loop_to b A ended (Past [] rest q l c) = cc (loop_not_empty b A s [] true l refl)
  loop_to b A ended (Past (Env u ∷ before) rest q l c) = cc q
  loop_to b A ended (Past (Own u ∷ inner) rest q (Leave e h a) c) =
      let same : u ≡ t = cc q in
      let back : inner ++ rest ≡ ms = cc q in
      (sym same ∙ e, inr (h, subst (λ l. K t l ended) back (subst (λ x. K x (inner ++ rest) ended) same (waits u inner rest ended a c))))
  loop_to b A ended (Past (Own u ∷ inner) rest q (Again before turn e h j a run) c) =
      let same : u ≡ t = cc q in
      let back : ms ≡ inner ++ rest = cc q in
      let whole = back ∙ ap (λ l. l ++ rest) j ∙ append_assoc before turn rest in
      let c1 = subst (λ x. K x rest ended) (ap (λ l. last u l) j ∙ last-append u before turn) c in
      let inside : Then A (Then (Loop b A) K) u ms ended = Past before (turn ++ rest) whole a (Past turn rest refl run c1) in
      (sym same ∙ e, inl (h, subst (λ x. Then A (Then (Loop b A) K) x ms ended) same inside))

  loop_from : (b : State → Bool) (A : Behavior) (ended : Bool) → t ≡ s → b s ≡ true → Then A (Then (Loop b A) K) t ms ended → Then (Loop b A) K s (Own t ∷ ms) ended
  loop_from b A ended e h (Within a) = Within (Inner e h a)
  loop_from b A ended e h (Past before rest j a (Within run)) = Within (Again before rest e h j a run)
  loop_from b A ended e h (Past before rest j a (Past turn rest2 j2 run c)) =
      Past (Own t ∷ (before ++ turn)) rest2 (ap (λ l. Own t ∷ l) (j ∙ ap (λ l. before ++ l) j2 ∙ sym (append_assoc before turn rest2))) (Again before turn e h refl a run) (subst (λ x. K x rest2 ended) (sym (last-append t before turn)) c)

  loop_leave : (b : State → Bool) (A : Behavior) (ended : Bool) → t ≡ s → b s ≡ false → K t ms ended → Then (Loop b A) K s (Own t ∷ ms) ended
  loop_leave b A ended e h c = Past (Own t ∷ []) ms refl (Leave e h tt) c

-- the items of a sequence, one after another

items_to : (items : Items) (k : List Statement) → Below (Then (runs_of_items items) (Rest k)) (Rest (list_of items ++ k))
items_to (one x) k s ms ended r = r
items_to (more x items) k s ms ended r =
    then_map (runs x) (Then (runs_of_items items) (Rest k)) (Rest (list_of items ++ k)) (items_to items k) s ms ended (then_assoc_right (runs x) (runs_of_items items) (Rest k) s ms ended r)

items_from : (items : Items) (k : List Statement) → Below (Rest (list_of items ++ k)) (Then (runs_of_items items) (Rest k))
items_from (one x) k s ms ended r = r
items_from (more x items) k s ms ended r =
    then_assoc_left (runs x) (runs_of_items items) (Rest k) s ms ended (then_map (runs x) (Rest (list_of items ++ k)) (Then (runs_of_items items) (Rest k)) (items_from items k) s ms ended r)

some_if : (b : Bool) (k k' : List Statement) → (if b then Some k else None) ≡ Some k' → (b ≡ true) × (k ≡ k')
some_if true k k' h = (refl, cc h)
some_if false k k' h = cc h

if_some : (b : Bool) (k : List Statement) → b ≡ true → (if b then Some k else None) ≡ Some k
if_some b k h = ap (λ v. if v then Some k else None) h

and_both : (a b : Bool) → a ≡ true → b ≡ true → (a && b) ≡ true
and_both a b h j = rw (h, j)

-- an own step of the first takes it to what is to be done then

own_to : (x : Statement) (k : List Statement) (s t : State) (ms : List ViewStep) (ended : Bool) → Then (runs x) (Rest k) s (Own t ∷ ms) ended → (k' : List Statement) × (step_of x k s t ≡ Some k') × Rest k' t ms ended
own_to (skip n) k s t ms ended r =
    let h = act_to (Rest k) (rest_waits k) s t ms always (assigned []) ended r in
    (k, if_some (same_state t s) k (same_yes t s h.1), h.2)
own_to (assign n a) k s t ms ended r =
    let h = act_to (Rest k) (rest_waits k) s t ms always (assigned (a ∷ [])) ended r in
    (k, if_some (same_state t (assigned (a ∷ []) s)) k (same_yes t (assigned (a ∷ []) s) h.1), h.2)
own_to (await n b act) k s t ms ended r =
    let h = act_to (Rest k) (rest_waits k) s t ms (holds_at b) (assigned act) ended r in
    (k, if_some (holds_at b s && same_state t (assigned act s)) k (and_both _ _ h.0 (same_yes t (assigned act s) h.1)), h.2)
own_to (sequence n a items) k s t ms ended r =
    own_to a (list_of items ++ k) s t ms ended (then_map (runs a) (Then (runs_of_items items) (Rest k)) (Rest (list_of items ++ k)) (items_to items k) s (Own t ∷ ms) ended (then_assoc_right (runs a) (runs_of_items items) (Rest k) s (Own t ∷ ms) ended r))
own_to (branch n b x y) k s t ms ended r =
    let h = choice_to (Rest k) (rest_waits k) s t ms (holds_at b) (runs x) (runs y) ended r in
    let next = (if holds_at b s then x else y) ∷ k in
    (next, if_some (same_state t s) next (same_yes t s h.0), ⊎_elim (λ l. subst (λ v. Rest ((if v then x else y) ∷ k) t ms ended) (sym l.0) l.1) (λ l. subst (λ v. Rest ((if v then x else y) ∷ k) t ms ended) (sym l.0) l.1) h.1)
own_to (loop n b x) k s t ms ended r =
    let h = loop_to (Rest k) (rest_waits k) s t ms (holds_at b) (runs x) ended r in
    let next = if holds_at b s then x ∷ loop n b x ∷ k else k in
    (next, if_some (same_state t s) next (same_yes t s h.0), ⊎_elim (λ l. subst (λ v. Rest (if v then x ∷ loop n b x ∷ k else k) t ms ended) (sym l.0) l.1) (λ l. subst (λ v. Rest (if v then x ∷ loop n b x ∷ k else k) t ms ended) (sym l.0) l.1) h.1)

if_from : (n : ℕ) (b : Proposition) (x y : Statement) (k : List Statement) (s t : State) (ms : List ViewStep) (ended : Bool) → t ≡ s → (v : Bool) → holds_at b s ≡ v → Rest ((if v then x else y) ∷ k) t ms ended → Then (runs (branch n b x y)) (Rest k) s (Own t ∷ ms) ended
if_from n b x y k s t ms ended e true h r = then_own (runs x) (runs (branch n b x y)) (Rest k) s t (λ l f a. Yes e h a) ms ended r
if_from n b x y k s t ms ended e false h r = then_own (runs y) (runs (branch n b x y)) (Rest k) s t (λ l f a. No e h a) ms ended r

while_from : (n : ℕ) (b : Proposition) (x : Statement) (k : List Statement) (s t : State) (ms : List ViewStep) (ended : Bool) → t ≡ s → (v : Bool) → holds_at b s ≡ v → Rest (if v then x ∷ loop n b x ∷ k else k) t ms ended → Then (runs (loop n b x)) (Rest k) s (Own t ∷ ms) ended
while_from n b x k s t ms ended e true h r = loop_from (Rest k) (rest_waits k) s t ms (holds_at b) (runs x) ended e h r
while_from n b x k s t ms ended e false h r = loop_leave (Rest k) (rest_waits k) s t ms (holds_at b) (runs x) ended e h r

own_from : (x : Statement) (k k' : List Statement) (s t : State) (ms : List ViewStep) (ended : Bool) → step_of x k s t ≡ Some k' → Rest k' t ms ended → Then (runs x) (Rest k) s (Own t ∷ ms) ended
own_from (skip n) k k' s t ms ended h r =
    let d = some_if (same_state t s) k k' h in
    act_from (Rest k) (rest_waits k) s t ms always (assigned []) ended refl (same_eq t s d.0) (subst (λ l. Rest l t ms ended) (sym d.1) r)
own_from (assign n a) k k' s t ms ended h r =
    let d = some_if (same_state t (assigned (a ∷ []) s)) k k' h in
    act_from (Rest k) (rest_waits k) s t ms always (assigned (a ∷ [])) ended refl (same_eq t (assigned (a ∷ []) s) d.0) (subst (λ l. Rest l t ms ended) (sym d.1) r)
own_from (await n b act) k k' s t ms ended h r =
    let d = some_if (holds_at b s && same_state t (assigned act s)) k k' h in
    act_from (Rest k) (rest_waits k) s t ms (holds_at b) (assigned act) ended (and_left _ _ d.0) (same_eq t (assigned act s) (and_right (holds_at b s) (same_state t (assigned act s)) d.0)) (subst (λ l. Rest l t ms ended) (sym d.1) r)
own_from (sequence n a items) k k' s t ms ended h r =
    then_assoc_left (runs a) (runs_of_items items) (Rest k) s (Own t ∷ ms) ended (then_map (runs a) (Rest (list_of items ++ k)) (Then (runs_of_items items) (Rest k)) (items_from items k) s (Own t ∷ ms) ended (own_from a (list_of items ++ k) k' s t ms ended h r))
own_from (branch n b x y) k k' s t ms ended h r =
    let d = some_if (same_state t s) ((if holds_at b s then x else y) ∷ k) k' h in
    if_from n b x y k s t ms ended (same_eq t s d.0) (holds_at b s) refl (subst (λ l. Rest l t ms ended) (sym d.1) r)
own_from (loop n b x) k k' s t ms ended h r =
    let d = some_if (same_state t s) (if holds_at b s then x ∷ loop n b x ∷ k else k) k' h in
    while_from n b x k s t ms ended (same_eq t s d.0) (holds_at b s) refl (subst (λ l. Rest l t ms ended) (sym d.1) r)

-- following a list of statements

pub some_of : (f : List Statement → Option Bool) (o : Option (List Statement)) (e : Bool) → option_and_then f o ≡ Some e → (k : List Statement) × (o ≡ Some k) × (f k ≡ Some e)
some_of f None e h = cc h
some_of f (Some k) e h = (k, refl, h)

followed_to : (todo : List Statement) (s : State) (ms : List ViewStep) (ended : Bool) → followed todo s ms ≡ Some ended → Rest todo s ms ended
followed_to [] s [] ended h = (tt, cc h)
followed_to (x ∷ k) s [] ended h =
    let e : false ≡ ended = cc h in
    subst (λ v. Rest (x ∷ k) s [] v) e (Within (runs_idle x s [] tt))
followed_to todo s (Env t ∷ ms) ended h = rest_put todo s t ms ended (followed_to todo t ms ended h)
followed_to [] s (Own t ∷ ms) ended h = cc h
followed_to (x ∷ k) s (Own t ∷ ms) ended h =
    let d = some_of (λ k'. followed k' t ms) (step_of x k s t) ended h in
    own_from x k d.0 s t ms ended d.1 (followed_to d.0 t ms ended d.2)

followed_from : (todo : List Statement) (s : State) (ms : List ViewStep) (ended : Bool) → Rest todo s ms ended → followed todo s ms ≡ Some ended
followed_from [] s [] ended r = ap Some (sym r.1)
followed_from (x ∷ k) s [] ended r = ap Some (sym (then_not_empty (runs x) (Rest k) (not_empty x) s [] ended r refl))
followed_from todo s (Env t ∷ ms) ended r = followed_from todo t ms ended (rest_strip todo s t ms ended r)
followed_from [] s (Own t ∷ ms) ended r = absurd r.0
followed_from (x ∷ k) s (Own t ∷ ms) ended r =
    let d = own_to x k s t ms ended r in
    ap (λ o. option_and_then (λ k'. followed k' t ms) o) d.1 ∙ followed_from d.0 t ms ended d.2

drop_done : (x : Statement) (s : State) (ms : List ViewStep) (ended : Bool) → Rest (x ∷ []) s ms ended → runs x s ms ended
drop_done x s ms ended (Within a) = a
drop_done x s ms ended (Past before rest e a c) =
    subst (λ l. runs x s l ended) (sym e) (subst (λ v. runs x s (before ++ rest) v) (sym c.1) (runs_tails x s before rest a c.0))

add_done : (x : Statement) (s : State) (ms : List ViewStep) (ended : Bool) → runs x s ms ended → Rest (x ∷ []) s ms ended
add_done x s ms true a = Past ms [] (sym (append-nil ms)) a (tt, refl)
add_done x s ms false a = Within a

pub following_decides : FollowingDecides
following_decides x s ms ended =
    (λ h. drop_done x s ms ended (followed_to (x ∷ []) s ms ended h), λ r. followed_from (x ∷ []) s ms ended (add_done x s ms ended r))
