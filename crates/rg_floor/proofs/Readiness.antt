-- Who can step, and which words stay.
use Rattle.std.proofs.Common.{◌≡◌, ℕ, zero, suc, ◌+◌, ◌-◌, ◌<◌, ◌≤◌, ◌==◌, Bool, true, false, ◌&&◌, ◌||◌, List, [], ◌∷◌, length, drop, Option, Some, None, refl, sym, ap, ◌∙◌, arith, rules, eq-eqb}
use Rattle.std.specs.Prelude.{◌↔◌, not, is_some, option_map, slice_get, slice_index, slice_index_or, if◌then◌else◌}
use Rattle.std.specs.Str.{bytes_eq}
use Rattle.std.proofs.lemmas.Slice.Eq.{bytes_eq-Decides}
use Rattle.rg_words.specs.Layout.{Word}
use Rattle.rg_words.specs.States.{AgreeOnFixed, SameIf}
use Rattle.rg_tree.specs.Traces.{State}
use Rattle.rg_code.specs.Operations.{reported_by}
use Rattle.rg_code.specs.Code.{BlockTree, do_block, await_block, test_block, end_block, stored, is_end, all_at_end}
use Rattle.rg_floor.specs.Ready.{block_at, can_go, any_can_go, is_reported, ReadyMeansSteps}
use Rattle.rg_floor.specs.Steps.{keeps_fixed}

pub and_true : (a b : Bool) → (a && b) ≡ true → (a ≡ true) × (b ≡ true)
and_true true b e = (refl, e)
and_true false b e = cc

pub or_true : (b c : Bool) → c ≡ true → (b || c) ≡ true
or_true true c e = refl
or_true false c e = e

there : {A : Type 0} → (o : Option A) → is_some o ≡ true → (x : A) × (o ≡ Some x)
there None e = cc
there (Some x) e = (x, refl)

reported : (o : Option Bool) → is_reported o ≡ true → o ≡ Some true
reported None e = cc
reported (Some b) e = ap Some e

pub ready_means_steps : ReadyMeansSteps
ready_means_steps None s = ((λ e. cc), (λ h. absurd h.2))
ready_means_steps (Some (do_block row next act)) s =
    ((λ e. let r = there (stored act s) e in (r.0, next, (r.1, refl))), (λ h. ap is_some h.2.0))
ready_means_steps (Some (await_block row next b act)) s = (
  (λ e. let a = and_true (is_reported (reported_by b s)) (is_some (stored act s)) e in let r = there (stored act s) a.1 in (r.0, next, (reported (reported_by b s) a.0, r.1, refl))),
  (λ h. ap (λ o. is_reported o && is_some (stored act s)) h.2.0 ∙ ap is_some h.2.1),
)
ready_means_steps (Some (test_block row yes_place no_place b)) s =
    ((λ e. let r = there (reported_by b s) e in (s, _, (refl, ap (λ o. option_map (λ v. if v then yes_place else no_place) o) r.1))), (λ h. mapped (reported_by b s) h.1 h.2.1))
  where
    mapped : (o : Option Bool) (to : ℕ) → option_map (λ v. if v then yes_place else no_place) o ≡ Some to → is_some o ≡ true
    mapped None to e = cc
    mapped (Some v) to e = refl
ready_means_steps (Some end_block) s = ((λ e. cc), (λ h. absurd h.2))

-- the block of a part, by its place from 0
abbrev block_in : List (List BlockTree) → List ℕ → ℕ → Option BlockTree
block_in cs ks j = slice_get (slice_index_or cs j []) (slice_index ks j)

ends_in : (cs : List (List BlockTree)) (ks : List ℕ) (j : ℕ) → j < length cs → length ks ≡ length cs → all_at_end (drop j cs) (drop j ks) ≡ (is_end (block_in cs ks j) && all_at_end (drop (suc j) cs) (drop (suc j) ks))
ends_in [] ks j less same = absurd (omega arith)
ends_in (c ∷ cs) [] j less same = absurd (omega (arith, same))
ends_in (c ∷ cs) (k ∷ ks) zero less same = refl
ends_in (c ∷ cs) (k ∷ ks) (suc j) less same = ends_in cs ks j (omega arith) (omega (arith, same))

any_in : (cs : List (List BlockTree)) (ks : List ℕ) (s : State) (j : ℕ) → j < length cs → length ks ≡ length cs → any_can_go (drop j cs) (drop j ks) s ≡ (can_go (block_in cs ks j) s || any_can_go (drop (suc j) cs) (drop (suc j) ks) s)
any_in [] ks s j less same = absurd (omega arith)
any_in (c ∷ cs) [] s j less same = absurd (omega (arith, same))
any_in (c ∷ cs) (k ∷ ks) s zero less same = refl
any_in (c ∷ cs) (k ∷ ks) s (suc j) less same = any_in cs ks s j (omega arith) (omega (arith, same))

pub any_at : (cs : List (List BlockTree)) (ks : List ℕ) (s : State) (i who : ℕ) → who ≡ i + 1 → i < length cs → length ks ≡ length cs → any_can_go (drop i cs) (drop i ks) s ≡ (can_go (block_at cs ks who) s || any_can_go (drop (i + 1) cs) (drop (i + 1) ks) s)
any_at cs ks s i who is less same =
    let j : who - 1 ≡ i = omega arith in
    let k : i + 1 ≡ suc i = omega arith in
    any_in cs ks s i less same ∙ (λ n. can_go (block_in cs ks (sym j n)) s || any_can_go (drop (sym k n) cs) (drop (sym k n) ks) s)

each_ends : (cs : List (List BlockTree)) (ks : List ℕ) (j : ℕ) → j < length cs → length ks ≡ length cs → all_at_end cs ks ≡ true → is_end (block_in cs ks j) ≡ true
each_ends [] ks j less same all = absurd (omega arith)
each_ends (c ∷ cs) [] j less same all = absurd (omega (arith, same))
each_ends (c ∷ cs) (k ∷ ks) zero less same all = (and_true (is_end (slice_get c k)) (all_at_end cs ks) all).0
each_ends (c ∷ cs) (k ∷ ks) (suc j) less same all = each_ends cs ks j (omega arith) (omega (arith, same)) (and_true (is_end (slice_get c k)) (all_at_end cs ks) all).1

or_left : (b c : Bool) → b ≡ true → (b || c) ≡ true
or_left true c e = refl
or_left false c e = cc

one_can : (cs : List (List BlockTree)) (ks : List ℕ) (s : State) (j : ℕ) → j < length cs → length ks ≡ length cs → can_go (block_in cs ks j) s ≡ true → any_can_go cs ks s ≡ true
one_can [] ks s j less same can = absurd (omega arith)
one_can (c ∷ cs) [] s j less same can = absurd (omega (arith, same))
one_can (c ∷ cs) (k ∷ ks) s zero less same can = or_left (can_go (slice_get c k) s) (any_can_go cs ks s) can
one_can (c ∷ cs) (k ∷ ks) s (suc j) less same can = or_true (can_go (slice_get c k) s) (any_can_go cs ks s) (one_can cs ks s j (omega arith) (omega (arith, same)) can)

-- where all parts are at their ends, each is
pub all_end : (cs : List (List BlockTree)) (ks : List ℕ) (who : ℕ) → 0 < who → who ≤ length cs → length ks ≡ length cs → all_at_end cs ks ≡ true → is_end (block_at cs ks who) ≡ true
all_end cs ks who some most same all = each_ends cs ks (who - 1) (omega arith) same all

-- where one part can step, some part can
pub some_can : (cs : List (List BlockTree)) (ks : List ℕ) (s : State) (who : ℕ) → 0 < who → who ≤ length cs → length ks ≡ length cs → can_go (block_at cs ks who) s ≡ true → any_can_go cs ks s ≡ true
some_can cs ks s who some most same can = one_can cs ks s (who - 1) (omega arith) same can

same_if : (f : Bool) (x y : ℕ) → SameIf f x y ↔ ((not f || (x == y)) ≡ true)
same_if true x y = ((λ e. eq-eqb x y e), (λ e. search (rules, e)))
same_if false x y = ((λ e. refl), (λ e. tt))

-- the fixed words agree exactly where the test says so
pub fixed_agree : (words : List Word) (s t : State) → AgreeOnFixed words s t ↔ (keeps_fixed words s t ≡ true)
unfolding AgreeOnFixed
fixed_agree (w ∷ ws) (x ∷ xs) (y ∷ ys) =
    let a = same_if w.fixed x y in
    let b = fixed_agree ws xs ys in
    ((λ h. both (not w.fixed || (x == y)) (keeps_fixed ws xs ys) (a.0 h.0) (b.0 h.1)), (λ e. let p = and_true (not w.fixed || (x == y)) (keeps_fixed ws xs ys) e in (a.1 p.0, b.1 p.1)))
  where
    both : (c d : Bool) → c ≡ true → d ≡ true → (c && d) ≡ true
    both true d e f = f
    both false d e f = e
fixed_agree [] xs ys = ((λ e. refl), (λ e. tt))
fixed_agree (w ∷ ws) [] ys = ((λ e. refl), (λ e. tt))
fixed_agree (w ∷ ws) (x ∷ xs) [] = ((λ e. refl), (λ e. tt))

-- equal states, by their test
pub same_by_test : (s t : State) → bytes_eq s t ≡ true → s ≡ t
same_by_test s t e = (bytes_eq-Decides s t).0 e

pub same_test : (s : State) → bytes_eq s s ≡ true
same_test s = (bytes_eq-Decides s s).1 refl

-- an end can't be done
pub not_both : (b : Option BlockTree) (s : State) → can_go b s ≡ true → is_end b ≡ true → ⊥
not_both None s c e = cc
not_both (Some (do_block row next act)) s c e = cc
not_both (Some (await_block row next b act)) s c e = cc
not_both (Some (test_block row yes_place no_place b)) s c e = cc
not_both (Some end_block) s c e = cc

-- two tests are one where each says the other
pub by_both : (a b : Bool) → (a ≡ true → b ≡ true) → (b ≡ true → a ≡ true) → a ≡ b
by_both true true f g = refl
by_both true false f g = sym (f refl)
by_both false true f g = g refl
by_both false false f g = refl

-- where one part isn't at its end, not all are
pub not_all : (cs : List (List BlockTree)) (ks : List ℕ) (who : ℕ) (r : Bool) → 0 < who → who ≤ length cs → length ks ≡ length cs → r ≡ is_end (block_at cs ks who) → r ≡ false → r ≡ all_at_end cs ks
not_all cs ks who r some most same is fails =
    by_both r (all_at_end cs ks) (λ e. cc) (λ e. is ∙ all_end cs ks who some most same e)
