-- The visits of steps, and the conditions of two of them.
use Rattle.std.proofs.Common.{◌≡◌, ◌∙◌, ◌≢◌, ℕ, zero, suc, ◌+◌, ◌<◌, ◌≤◌, Bool, true, false, not, ◌&&◌, ◌||◌, nat_eq, cond, List, [], ◌∷◌, ◌++◌, map, drop, get_or, length, Option, Some, None, ◌⊎◌, inl, inr, refl, ap, sym, subst, arith, length-append}
use Rattle.std.specs.Prelude.{slice_get, option_and_then, option_map}
use Rattle.std.specs.List.{filter, flat_map}
use Rattle.std.proofs.lemmas.Bool.{and_from, eq-eqb, ne_eqb, not_from_false}
use Rattle.std.proofs.lemmas.Option.{slice_get_within, get_or_from_slice_get, slice_get_cases}
use Rattle.std.proofs.Math.Seq.{drop-cons}
use Rattle.std.proofs.Math.ListN.{drop_of_length-le}
use Rattle.std.proofs.lemmas.List.Elements.{filter-append}
use Rattle.rg_tree.specs.Trees.{Proposition, truth}
use Rattle.rg_tree.specs.Statements.{Statement, skip, assign, await, sequence, branch, loop, Items, one, more, PartTree}
use Rattle.rg_tree.specs.Numbering.{statements, numbered_from, numbered_parts}
use Rattle.rg_tree.specs.declared.numbered.Numbered.{Numbered}
use Rattle.rg_tree.specs.Lines.{LineTree}
use Rattle.rg_tree.specs.RuleConditions.{RuleCondition, reaches}
use Rattle.rg_code.specs.Code.{count_of, count_of_items}
use Rattle.rg_c_plan.specs.Accesses.{StepTree, steps, steps_of_items, steps_of_parts, writes}
use Rattle.rg_c_plan.specs.Where.{step_where}
use Rattle.rg_c_plan.specs.View.{step}
use Rattle.rg_c_plan.specs.declared.step.Step.{Step}
use Rattle.rg_accept.specs.Standing.{block_numbers, numbers_of_blocks, is_conseq}
use Rattle.rg_accept.proofs.Blocks.{length-numbers}
use Rattle.rg_apart.specs.Lifted.{lifted_formula}
use Rattle.rg_apart.specs.Conditions.{VisitTree, is_step, is_line_of, visit_of, visits_by, visits, kept_apart, apart_among}
use Rattle.rg_apart.proofs.Among.{Among, among_front, among_back, among_map, among_kept, among_flat}

-- a statement has a step for each block
mutual
  pub length-steps : (s : Statement) → length (steps s) ≡ count_of s
  length-steps (skip row) = refl
  length-steps (assign row a) = refl
  length-steps (await row b act) = refl
  length-steps (sequence row s items) = length-append (steps s) (steps_of_items items) ∙ (rw (length-steps s, length-steps_of_items items) refl)
  length-steps (branch row b s t) = ap suc (length-append (steps s) (steps t) ∙ (rw (length-steps s, length-steps t) refl))
  length-steps (loop row b s) = ap suc (length-steps s)

  length-steps_of_items : (items : Items) → length (steps_of_items items) ≡ count_of_items items
  length-steps_of_items (one s) = length-steps s
  length-steps_of_items (more s items) = length-append (steps s) (steps_of_items items) ∙ (rw (length-steps s, length-steps_of_items items) refl)

-- two elements stand at one place of two lists
abbrev pub Beside : {X Y : Type 0} → X → Y → List X → List Y → Type 0
Beside x y (z ∷ xs) (w ∷ ys) = ((z ≡ x) × (w ≡ y)) ⊎ Beside x y xs ys
Beside x y xs ys = ⊥

beside_at : {X Y : Type 0} (x : X) (y : Y) (xs : List X) (ys : List Y) (k : ℕ) → slice_get xs k ≡ Some x → slice_get ys k ≡ Some y → Beside x y xs ys
beside_at x y [] ys k hx hy = cc hx
beside_at x y (z ∷ xs) [] k hx hy = cc hy
beside_at x y (z ∷ xs) (w ∷ ys) zero hx hy = let same_x : z ≡ x = cc hx in let same_y : w ≡ y = cc hy in inl (same_x, same_y)
beside_at x y (z ∷ xs) (w ∷ ys) (suc k) hx hy = inr (beside_at x y xs ys k hx hy)

beside_front : {X Y : Type 0} (x : X) (y : Y) (xs zs : List X) (ys bs : List Y) → Beside x y xs ys → Beside x y (xs ++ zs) (ys ++ bs)
beside_front x y [] zs ys bs h = absurd h
beside_front x y (z ∷ xs) zs [] bs h = absurd h
beside_front x y (z ∷ xs) zs (w ∷ ys) bs h = elim h [ inl e ↦ inl e | inr r ↦ inr (beside_front x y xs zs ys bs r) ]

beside_back : {X Y : Type 0} (x : X) (y : Y) (xs zs : List X) (ys bs : List Y) → length xs ≡ length ys → Beside x y zs bs → Beside x y (xs ++ zs) (ys ++ bs)
beside_back x y [] zs [] bs size h = h
beside_back x y [] zs (w ∷ ys) bs size h = absurd (omega (arith, size))
beside_back x y (z ∷ xs) zs [] bs size h = absurd (omega (arith, size))
beside_back x y (z ∷ xs) zs (w ∷ ys) bs size h = inr (beside_back x y xs zs ys bs (omega (arith, size)) h)

-- the statements of a part that are steps have the numbers of its blocks
stepping_from : ℕ → ℕ → List Statement → List Numbered
stepping_from a m ss = filter is_step (numbered_from a m ss)

length-stepping : (a m : ℕ) (ss : List Statement) → length (filter is_step (numbered_from a m ss)) ≡ length (block_numbers m ss)
length-stepping a m [] = refl
length-stepping a m (skip row ∷ ss) = ap suc (length-stepping a (m + 1) ss)
length-stepping a m (assign row b ∷ ss) = ap suc (length-stepping a (m + 1) ss)
length-stepping a m (await row b act ∷ ss) = ap suc (length-stepping a (m + 1) ss)
length-stepping a m (sequence row s items ∷ ss) = length-stepping a (m + 1) ss
length-stepping a m (branch row b s t ∷ ss) = ap suc (length-stepping a (m + 1) ss)
length-stepping a m (loop row b s ∷ ss) = ap suc (length-stepping a (m + 1) ss)

-- the statement of a block
record OfBlock (a m : ℕ) (ss : List Statement) (k : ℕ) : Type 0 where
  numbered : Numbered
  found : slice_get (filter is_step (numbered_from a m ss)) k ≡ Some numbered
  part : numbered.part ≡ a
  number : slice_get (block_numbers m ss) k ≡ Some numbered.number

after : (a m : ℕ) (s : Statement) (ss : List Statement) (k : ℕ) → (n : Numbered) → filter is_step (numbered_from a m (s ∷ ss)) ≡ n ∷ filter is_step (numbered_from a (m + 1) ss) → block_numbers m (s ∷ ss) ≡ m ∷ block_numbers (m + 1) ss → OfBlock a (m + 1) ss k → OfBlock a m (s ∷ ss) (suc k)
after a m s ss k n e f o = record {
  numbered = o.numbered;
  found = ap (λ (l : List Numbered). slice_get l (suc k)) e ∙ o.found;
  part = o.part;
  number = ap (λ (l : List ℕ). slice_get l (suc k)) f ∙ o.number;
}

of_block : (a m : ℕ) (ss : List Statement) (k : ℕ) → k < length (block_numbers m ss) → OfBlock a m ss k
of_block a m [] k h = absurd (omega arith)
of_block a m (skip row ∷ ss) zero h = record { numbered = _; found = refl; part = refl; number = refl }
of_block a m (skip row ∷ ss) (suc k) h = after a m (skip row) ss k _ refl refl (of_block a (m + 1) ss k (omega arith))
of_block a m (assign row b ∷ ss) zero h = record { numbered = _; found = refl; part = refl; number = refl }
of_block a m (assign row b ∷ ss) (suc k) h = after a m (assign row b) ss k _ refl refl (of_block a (m + 1) ss k (omega arith))
of_block a m (await row b act ∷ ss) zero h = record { numbered = _; found = refl; part = refl; number = refl }
of_block a m (await row b act ∷ ss) (suc k) h = after a m (await row b act) ss k _ refl refl (of_block a (m + 1) ss k (omega arith))
of_block a m (sequence row s items ∷ ss) k h = let o = of_block a (m + 1) ss k h in record { numbered = o.numbered; found = o.found; part = o.part; number = o.number }
of_block a m (branch row b s t ∷ ss) zero h = record { numbered = _; found = refl; part = refl; number = refl }
of_block a m (branch row b s t ∷ ss) (suc k) h = after a m (branch row b s t) ss k _ refl refl (of_block a (m + 1) ss k (omega arith))
of_block a m (loop row b s ∷ ss) zero h = record { numbered = _; found = refl; part = refl; number = refl }
of_block a m (loop row b s ∷ ss) (suc k) h = after a m (loop row b s) ss k _ refl refl (of_block a (m + 1) ss k (omega arith))

-- parts of q have the blocks of those of p
abbrev pub AreAlike : List PartTree → List PartTree → Type 0
AreAlike ps qs = (i : ℕ) (q : PartTree) → slice_get qs i ≡ Some q → (p : PartTree) × (slice_get ps i ≡ Some p) × (count_of p.body ≡ count_of q.body)

-- the statement of a step of the i-th part of q, whose parts count from a
pub record OfStep (a m : ℕ) (ps qs : List PartTree) (i k : ℕ) (s : StepTree) : Type 0 where
  pub numbered : Numbered
  pub beside : Beside s numbered (steps_of_parts qs) (filter is_step (numbered_parts a m ps))
  pub part : numbered.part ≡ a + i
  pub number : option_and_then (λ (ns : List ℕ). slice_get ns k) (slice_get (numbers_of_blocks m ps) i) ≡ Some numbered.number

-- of p and q, which have as many blocks
same_size : (a m : ℕ) (p q : PartTree) → count_of p.body ≡ count_of q.body → length (steps q.body) ≡ length (filter is_step (numbered_from a m (statements p.body)))
same_size a m p q same = length-steps q.body ∙ sym same ∙ sym (length-numbers m p.body) ∙ sym (length-stepping a m (statements p.body))

pub of_step : (a m : ℕ) (ps qs : List PartTree) (i : ℕ) (q : PartTree) (k : ℕ) (s : StepTree) → AreAlike ps qs → slice_get qs i ≡ Some q → slice_get (steps q.body) k ≡ Some s → OfStep a m ps qs i k s
of_step a m ps [] i q k s alike found there = cc found
of_step a m [] (r ∷ qs) i q k s alike found there = let none = (alike zero r refl).1 in cc none
of_step a m (p ∷ ps) (r ∷ qs) zero q k s alike found there =
    let is_part : r ≡ q = cc found in
    let here = alike zero r refl in
    let is_first : p ≡ here.0 = let e = here.1 in cc e in
    let same : count_of p.body ≡ count_of r.body = ap (λ (x : PartTree). count_of x.body) is_first ∙ here.2 in
    let at : slice_get (steps r.body) k ≡ Some s = subst (λ (x : PartTree). slice_get (steps x.body) k ≡ Some s) (sym is_part) there in
    let within = slice_get_within (steps r.body) k s at in
    let o = of_block a m (statements p.body) k (omega (arith, within, length-steps r.body, same, length-numbers m p.body)) in
    record {
      numbered = o.numbered;
      beside = rw filter-append (beside_front s o.numbered (steps r.body) (steps_of_parts qs) (filter is_step (numbered_from a m (statements p.body))) (filter is_step (numbered_parts (a + 1) (m + length (statements p.body)) ps)) (beside_at s o.numbered (steps r.body) (filter is_step (numbered_from a m (statements p.body))) k at o.found));
      part = let e = o.part in omega (arith, e);
      number = o.number;
    }
of_step a m (p ∷ ps) (r ∷ qs) (suc i) q k s alike found there =
    let here = alike zero r refl in
    let is_first : p ≡ here.0 = let e = here.1 in cc e in
    let same : count_of p.body ≡ count_of r.body = ap (λ (x : PartTree). count_of x.body) is_first ∙ here.2 in
    let o = of_step (a + 1) (m + length (statements p.body)) ps qs i q k s (λ j x h. alike (suc j) x h) found there in
    record {
      numbered = o.numbered;
      beside = rw filter-append (beside_back s o.numbered (steps r.body) (steps_of_parts qs) (filter is_step (numbered_from a m (statements p.body))) (filter is_step (numbered_parts (a + 1) (m + length (statements p.body)) ps)) (same_size a m p r same) o.beside);
      part = let e = o.part in omega (arith, e);
      number = o.number;
    }

-- a visit of the step for each line of its statement, but those by consequence
pub visit_among : (old : List ℕ) (k : ℕ) (lines : List LineTree) (ss : List StepTree) (ns : List Numbered) (s : StepTree) (n : Numbered) (f : Proposition) (line : LineTree) → Beside s n ss ns → step_where k s.guard s.act ≡ Some f → Among line lines → line.number ≡ n.number → is_conseq line.rule ≡ false → Among (visit_of n.part (lifted_formula old f) (writes k s.act) line) (visits old k lines ss ns)
visit_among old k lines [] ns s n f line h hf among same own = absurd h
visit_among old k lines (t ∷ ss) [] s n f line h hf among same own = absurd h
visit_among old k lines (t ∷ ss) (j ∷ ns) s n f line h hf among same own =
    elim h [
      | inl e ↦ among_front made (by t j) (visits old k lines ss ns) (subst (λ (u : StepTree). Among made (by u j)) (sym e.0) (subst (λ (i : Numbered). Among made (by s i)) (sym e.1) here))
      | inr r ↦ among_back made (by t j) (visits old k lines ss ns) (visit_among old k lines ss ns s n f line r hf among same own)
    ]
  where
    made : VisitTree
    made = visit_of n.part (lifted_formula old f) (writes k s.act) line

    by : StepTree → Numbered → List VisitTree
    by u i = visits_by lines i (option_map (lifted_formula old) (step_where k u.guard u.act)) (writes k u.act)

    listed : is_line_of n.number line ≡ true
    listed = and_from (nat_eq line.number n.number) (not (is_conseq line.rule)) (eq-eqb line.number n.number same) (not_from_false (is_conseq line.rule) own)

    here : Among made (by s n)
    here =
        subst (λ (o : Option Proposition). Among made (visits_by lines n (option_map (lifted_formula old) o) (writes k s.act))) (sym hf)
        (among_map (visit_of n.part (lifted_formula old f) (writes k s.act)) (filter (is_line_of n.number) lines) line (among_kept (is_line_of n.number) lines line among listed))

-- the condition of two visits
abbrev pub never_both : VisitTree → VisitTree → RuleCondition
never_both u v = reaches (u.pre ∷ u.site ∷ v.pre ∷ v.site ∷ []) [] (truth false)

kept_among : (u v : VisitTree) → u.part ≢ v.part → (u.writes || v.writes) ≡ true → Among (never_both u v) (kept_apart u v)
kept_among u v ne h =
    let two : (not (nat_eq u.part v.part) && (u.writes || v.writes)) ≡ true = and_from (not (nat_eq u.part v.part)) (u.writes || v.writes) (not_from_false (nat_eq u.part v.part) (ne_eqb u.part v.part ne)) h in
    subst (λ (b : Bool). Among (never_both u v) (cond b (never_both u v ∷ []) [])) (sym two) (inl refl)

either_way : (a b : Bool) → (a || b) ≡ true → (b || a) ≡ true
either_way true true h = h
either_way true false h = h
either_way false true h = h
either_way false false h = h

-- it is asked of two visits of two parts, in the order of the list
pub pair_among : (vs : List VisitTree) (u v : VisitTree) → Among u vs → Among v vs → u.part ≢ v.part → (u.writes || v.writes) ≡ true → Among (never_both u v) (apart_among vs) ⊎ Among (never_both v u) (apart_among vs)
pair_among [] u v hu hv ne h = absurd hu
pair_among (w ∷ vs) u v hu hv ne h =
    elim hu [
      | inl e ↦ elim hv [
        | inl f ↦ absurd (ne (sym (ap (λ (x : VisitTree). x.part) e) ∙ ap (λ (x : VisitTree). x.part) f))
        | inr r ↦ inl (among_front (never_both u v) (flat_map (kept_apart w) vs) (apart_among vs) (asked u v e r ne h))
      ]
      | inr r ↦ elim hv [
        | inl f ↦ inr (among_front (never_both v u) (flat_map (kept_apart w) vs) (apart_among vs) (asked v u f r (λ x. ne (sym x)) (either_way u.writes v.writes h)))
        | inr q ↦ elim (pair_among vs u v r q ne h) [
          | inl a ↦ inl (among_back (never_both u v) (flat_map (kept_apart w) vs) (apart_among vs) a)
          | inr a ↦ inr (among_back (never_both v u) (flat_map (kept_apart w) vs) (apart_among vs) a)
        ]
      ]
    ]
  where
    asked : (x y : VisitTree) → w ≡ x → Among y vs → x.part ≢ y.part → (x.writes || y.writes) ≡ true → Among (never_both x y) (flat_map (kept_apart w) vs)
    asked x y e among other writing = subst (λ (z : VisitTree). Among (never_both x y) (flat_map (kept_apart z) vs)) (sym e) (among_flat (kept_apart x) vs y (never_both x y) among (kept_among x y other writing))

-- no visits are left where no statement is
no_visits : (old : List ℕ) (k : ℕ) (lines : List LineTree) (ss : List StepTree) → ◌≡◌ {A = List VisitTree} (visits old k lines ss []) []
no_visits old k lines [] = refl
no_visits old k lines (s ∷ ss) = refl

one_more : (k : ℕ) → k + 1 ≡ suc k
one_more k = omega arith

-- the visits from a place on: those of the step there, and the rest
pub visits_here : (old : List ℕ) (k : ℕ) (lines : List LineTree) (ss : List Step) (ns : List Numbered) (i : ℕ) (s : Step) (n : Numbered) → i < length ss → s ≡ get_or ss i s → slice_get ns i ≡ Some n
    → visits old k lines (map step (drop i ss)) (drop i ns) ≡ visits_by lines n (option_map (lifted_formula old) (step_where k (step s).guard (step s).act)) (writes k (step s).act) ++ visits old k lines (map step (drop (i + 1) ss)) (drop (i + 1) ns)
visits_here old k lines ss ns i s n less at there =
    let steps_from : drop i ss ≡ s ∷ drop (i + 1) ss = drop-cons ss i s less ∙ ap (λ x. x ∷ drop (suc i) ss) (sym at) ∙ ap (λ m. s ∷ drop m ss) (sym (one_more i)) in
    let numbers_from : drop i ns ≡ n ∷ drop (i + 1) ns = drop-cons ns i n (slice_get_within ns i n there) ∙ ap (λ x. x ∷ drop (suc i) ns) (get_or_from_slice_get ns i n n there) ∙ ap (λ m. n ∷ drop m ns) (sym (one_more i)) in
    ap (λ l. visits old k lines (map step l) (drop i ns)) steps_from ∙ ap (λ l. visits old k lines (step s ∷ map step (drop (i + 1) ss)) l) numbers_from

pub visits_past : (old : List ℕ) (k : ℕ) (lines : List LineTree) (ss : List Step) (ns : List Numbered) (i : ℕ) → slice_get ns i ≡ None → visits old k lines (map step (drop i ss)) (drop i ns) ≡ visits old k lines (map step (drop (i + 1) ss)) (drop (i + 1) ns)
visits_past old k lines ss ns i none =
    elim (slice_get_cases ns i).1 [
      | inl there ↦ let some = there.2 in let both : ◌≡◌ {A = Option Numbered} None (Some there.0) = sym none ∙ some in cc both
      | inr past ↦
          ap (λ l. visits old k lines (map step (drop i ss)) l) (drop_of_length-le ns past.0)
          ∙ no_visits old k lines (map step (drop i ss)) ∙ sym (no_visits old k lines (map step (drop (i + 1) ss)))
          ∙ ap (λ l. visits old k lines (map step (drop (i + 1) ss)) l) (sym (drop_of_length-le ns (more past.0)))
    ]
  where
    more : length ns ≤ i → length ns ≤ i + 1
    more h = omega (arith, h)
