-- The words that assignments change.
use Rattle.std.proofs.Common.{◌≡◌, ℕ, zero, suc, ◌<◌, Bool, true, false, not, ◌||◌, cond, nat_eq, List, [], ◌∷◌, length, map, refl, ap, sym, subst, ◌∙◌, arith}
use Rattle.std.specs.Prelude.{slice_index, slice_set, if◌then◌else◌}
use Rattle.std.specs.List.{list_any}
use Rattle.std.proofs.lemmas.Bool.{or_parts, or_right, eqb-true, eqb-false, eq-eqb}
use Rattle.std.proofs.lemmas.List.{length-set, set-get_or, get_or-set_same, get_or-set_other}
use Rattle.rg_tree.specs.Trees.{Expression, Assignment, number, word, next_word, inverse, binary, shifted, choice}
use Rattle.rg_tree.specs.Meaning.{value_of}
use Rattle.rg_tree.specs.ConditionTrees.{assigned, AssignmentsTyped}
use Rattle.rg_c_plan.specs.Accesses.{writes}
use Rattle.rg_c_plan.specs.Changes.{is_word, moving}
use Rattle.rg_c_values.specs.declared.print.Read.{Read}
use Rattle.rg_c_values.specs.declared.print.Read.TheVariants.{Plain, Load, Local}
use Rattle.rg_c_values.specs.Items.{read_of}
use Rattle.rg_c.specs.Reads.{with_locals}
use Rattle.rg_c.specs.Assigned.{GivenTree, given_of, is_in, targets_beside}
use Rattle.rg_c.specs.Together.{is_local, has_local}

-- a word that is read from its local stays so
read_stays : (reads : List Read) (j k : ℕ) → read_of reads k ≡ Local → read_of (slice_set reads j Local) k ≡ Local
read_stays [] zero k h = h
read_stays [] (suc j) k h = h
read_stays (r ∷ reads) zero zero h = refl
read_stays (r ∷ reads) zero (suc k) h = h
read_stays (r ∷ reads) (suc j) zero h = h
read_stays (r ∷ reads) (suc j) (suc k) h = read_stays reads j k h

reads_stay : (ks : List ℕ) (reads : List Read) (k : ℕ) → read_of reads k ≡ Local → read_of (with_locals reads ks) k ≡ Local
reads_stay [] reads k h = h
reads_stay (j ∷ ks) reads k h = reads_stay ks (slice_set reads j Local) k (read_stays reads j k h)

pub plain_at : (reads : List Read) (k : ℕ) → list_any is_local reads ≡ false → is_local (read_of reads k) ≡ false
plain_at [] zero h = refl
plain_at [] (suc k) h = refl
plain_at (r ∷ reads) zero h = (or_parts _ _ h).0
plain_at (r ∷ reads) (suc k) h = plain_at reads k (or_parts _ _ h).1

pub none_local : (reads : List Read) (gs : List GivenTree) → list_any is_local reads ≡ false → has_local reads gs ≡ false
none_local reads [] h = refl
none_local reads (g ∷ gs) h = rw (plain_at reads g.word h) (none_local reads gs h)

-- and where one word is read from its local, as long as it isn't assigned
pub beside_local : (reads : List Read) (widths : List ℕ) (x : ℕ) (act : List Assignment) → list_any is_local reads ≡ false → writes x act ≡ false → has_local (slice_set reads x Local) (map (given_of widths) act) ≡ false
beside_local reads widths x [] h w = refl
beside_local reads widths x (a ∷ act) h w =
    let d = or_parts _ _ w in
    let here : is_local (read_of (slice_set reads x Local) a.target) ≡ false = ap is_local (get_or-set_other reads x a.target Local Plain (λ e. eqb-false _ _ d.0 (sym e))) ∙ plain_at reads a.target h in
    rw here (beside_local reads widths x act h d.1)

pub local_in : (ks : List ℕ) (reads : List Read) (k : ℕ) → k < length reads → is_in k ks ≡ true → read_of (with_locals reads ks) k ≡ Local
local_in [] reads k less h = cc h
local_in (j ∷ ks) reads k less h = by (nat_eq k j) refl h (local_in ks (slice_set reads j Local) k (let e = length-set reads j Local in omega (arith, less, e)))
  where
    by : (b : Bool) → nat_eq k j ≡ b → (b || is_in k ks) ≡ true → (is_in k ks ≡ true → read_of (with_locals (slice_set reads j Local) ks) k ≡ Local) → read_of (with_locals (slice_set reads j Local) ks) k ≡ Local
    by true q m rest = let same = eqb-true _ _ q in reads_stay ks (slice_set reads j Local) k (subst (λ i. read_of (slice_set reads i Local) k ≡ Local) same (get_or-set_same reads k Local Plain less))
    by false q m rest = rest m

-- all words that are assigned are read from locals
abbrev pub Covered : List Read → List GivenTree → Type 0
Covered reads [] = Unit {0}
Covered reads (g ∷ gs) = (g.word < length reads → read_of reads g.word ≡ Local) × Covered reads gs

pub covered : (reads : List Read) (ks : List ℕ) (gs : List GivenTree) → ((k : ℕ) → k < length reads → is_in k ks ≡ true → read_of reads k ≡ Local) →
    ((k : ℕ) → k < length reads → is_in k (targets_beside ks gs) ≡ true → read_of reads k ≡ Local) → Covered reads gs
covered reads ks [] known more = tt
covered reads ks (g ∷ gs) known more = by (is_in g.word ks) refl more (covered reads ks gs known) (covered reads (g.word ∷ ks) gs)
  where
    by : (b : Bool) → is_in g.word ks ≡ b → ((k : ℕ) → k < length reads → is_in k (if b then targets_beside ks gs else g.word ∷ targets_beside (g.word ∷ ks) gs) ≡ true → read_of reads k ≡ Local) →
        (((k : ℕ) → k < length reads → is_in k (targets_beside ks gs) ≡ true → read_of reads k ≡ Local) → Covered reads gs) →
        (((k : ℕ) → k < length reads → is_in k (g.word ∷ ks) ≡ true → read_of reads k ≡ Local) → ((k : ℕ) → k < length reads → is_in k (targets_beside (g.word ∷ ks) gs) ≡ true → read_of reads k ≡ Local) → Covered reads gs) →
        Covered reads (g ∷ gs)
    by true h more same other = (λ less. known g.word less h, same more)
    by false h more same other = (
      λ less. more g.word less (rw (eq-eqb g.word g.word refl) refl),
      other (λ k less m. here k less (nat_eq k g.word) refl m) (λ k less m. more k less (or_right (nat_eq k g.word) (is_in k (targets_beside (g.word ∷ ks) gs)) m)),
    )
      where
        here : (k : ℕ) → k < length reads → (c : Bool) → nat_eq k g.word ≡ c → (c || is_in k ks) ≡ true → read_of reads k ≡ Local
        here k less true q m = more k less (rw q refl)
        here k less false q m = known k less m

-- the assignments of words to themselves change nothing
pub itself : (k : ℕ) (e : Expression) (s : List ℕ) → is_word k e ≡ true → value_of e s s ≡ slice_index s k
itself k (word j) s h = ap (slice_index s) (sym (eqb-true _ _ h))
itself k (number w n) s h = cc
itself k (next_word j) s h = cc
itself k (inverse w a) s h = cc
itself k (binary o w a b) s h = cc
itself k (shifted d w a n) s h = cc
itself k (choice f a b) s h = cc

pub moving_assigned : (act : List Assignment) (s : List ℕ) → assigned (moving act) s ≡ assigned act s
moving_assigned [] s = refl
moving_assigned (a ∷ act) s = by (is_word a.target a.value) refl (moving_assigned act)
  where
    by : (b : Bool) → is_word a.target a.value ≡ b → ((t : List ℕ) → assigned (moving act) t ≡ assigned act t) → assigned (cond (not b) (a ∷ moving act) (moving act)) s ≡ assigned act (slice_set s a.target (value_of a.value s s))
    by true h rest = rest s ∙ ap (assigned act) (sym (ap (slice_set s a.target) (itself a.target a.value s h) ∙ set-get_or s a.target 0))
    by false h rest = rest (slice_set s a.target (value_of a.value s s))

pub moving_typed : (widths : List ℕ) (act : List Assignment) → AssignmentsTyped widths act → AssignmentsTyped widths (moving act)
moving_typed widths [] h = tt
moving_typed widths (a ∷ act) h = by (is_word a.target a.value) (moving_typed widths act h.2)
  where
    by : (b : Bool) → AssignmentsTyped widths (moving act) → AssignmentsTyped widths (cond (not b) (a ∷ moving act) (moving act))
    by true rest = rest
    by false rest = (h.0, h.1, rest)
