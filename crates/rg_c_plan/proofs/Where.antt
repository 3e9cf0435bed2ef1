-- Where a step accesses a word, its formula says so.
use Rattle.std.proofs.Common.{◌≡◌, ◌∙◌, ℕ, ◌+◌, Bool, true, false, nat_eq, List, [], ◌∷◌, Option, Some, None, length, cond, ◌⊎◌, inl, inr, refl, ap, sym, arith}
use Rattle.std.specs.Prelude.{slice_set, if◌then◌else◌}
use Rattle.std.proofs.lemmas.Bool.{true≢false, not-true, not_from_false, or_left, or_right, and_from, cases_lt, eq-eqb}
use Rattle.std.proofs.lemmas.List.{get_or_past}
use Rattle.std.proofs.lemmas.List.FromFn.{length-map-range_with_len, get_or-map-range_with_len}
use Rattle.rg_words.specs.Layout.{Word}
use Rattle.rg_tree.specs.Trees.{Expression, Proposition, Assignment, number, word, next_word, inverse, binary, shifted, choice, truth, negation, connected, compared}
use Rattle.rg_tree.specs.Meaning.{value_of, holds}
use Rattle.rg_tree.specs.Traces.{State, holds_at}
use Rattle.rg_c_plan.specs.Changes.{change_of}
use Rattle.rg_c_plan.specs.Accesses.{stands_in_formula}
use Rattle.rg_c_plan.specs.Ways.{kind_at, is_atomic, is_published, is_shared}
use Rattle.rg_c_plan.specs.Once.{stores}
use Rattle.rg_c_plan.specs.Made.{reads_made, tests_made, tested_made, change_made, changes_made, step_made}
use Rattle.rg_c_plan.specs.Where.{either, under, at_word, read_where, tested_where, after_test, change_where, freed, changes_where, step_where, alone, AccessesAreWhere}
use Rattle.rg_c_plan.specs.declared.kind.Kind.{Kind}
use Rattle.rg_c_plan.specs.declared.kind.Kind.TheVariants.{Own, Atomic}
use Rattle.rg_c_plan.proofs.Indices.{truth_stays}

-- the formula is there, and holds
abbrev so : Option Proposition → State → Bool
so None s = false
so (Some f) s = holds_at f s

-- so many accesses are made only where it does
abbrev Told : ℕ → Option Proposition → State → Type 0
Told n o s = (n ≡ 0) ⊎ (so o s ≡ true)

either_left : (a b : Option Proposition) (s : State) → so a s ≡ true → so (either a b) s ≡ true
either_left None b s h = cc h
either_left (Some f) None s h = h
either_left (Some f) (Some g) s h = or_left (holds_at f s) (holds_at g s) h

either_right : (a b : Option Proposition) (s : State) → so b s ≡ true → so (either a b) s ≡ true
either_right None b s h = h
either_right (Some f) None s h = cc h
either_right (Some f) (Some g) s h = or_right (holds_at f s) (holds_at g s) h

either_told : (a b : Option Proposition) (m n : ℕ) (s : State) → Told m a s → Told n b s → Told (m + n) (either a b) s
either_told a b m n s first second =
    elim first [
      | inl x ↦ elim second [ inl y ↦ inl (omega (arith, x, y)) | inr y ↦ inr (either_right a b s y) ]
      | inr x ↦ inr (either_left a b s x)
    ]

under_so : (f : Proposition) (o : Option Proposition) (s : State) → holds_at f s ≡ true → so o s ≡ true → so (under f o) s ≡ true
under_so f None s h y = cc y
under_so f (Some g) s h y = and_from (holds_at f s) (holds_at g s) h y

under_told : (f : Proposition) (o : Option Proposition) (n : ℕ) (s : State) → holds_at f s ≡ true → Told n o s → Told n (under f o) s
under_told f o n s h t = elim t [ inl x ↦ inl x | inr y ↦ inr (under_so f o s h y) ]

-- of a choice, one side
choice_told : (f : Proposition) (a b : Option Proposition) (m n : ℕ) (s : State) (v : Bool) → holds f s s ≡ v → Told m a s → Told n b s → Told (cond v m n) (either (under f a) (under (negation f) b)) s
choice_told f a b m n s true h first second =
    elim (under_told f a m s h first) [ inl x ↦ inl x | inr y ↦ inr (either_left (under f a) (under (negation f) b) s y) ]
choice_told f a b m n s false h first second =
    elim (under_told (negation f) b n s (not_from_false (holds f s s) h) second) [ inl x ↦ inl x | inr y ↦ inr (either_right (under f a) (under (negation f) b) s y) ]

here_so : (s : State) (b : Bool) → b ≡ true → so (if b then Some (truth true) else None) s ≡ true
here_so s true h = refl
here_so s false h = cc h

freed_so : (o : Option Proposition) (j x : ℕ) (s : State) → so o (slice_set s j x) ≡ true → so (freed j o) s ≡ true
freed_so None j x s h = cc h
freed_so (Some f) j x s h = by (stands_in_formula j f) refl
  where
    by : (b : Bool) → stands_in_formula j f ≡ b → holds_at (if b then truth true else f) s ≡ true
    by true e = refl
    by false e = sym (truth_stays s j x f e) ∙ h

module _ (kinds : List Kind) (k : ℕ) (only : (j : ℕ) → is_shared (kind_at kinds j) ≡ true → nat_eq k j ≡ true) where
  word_told : (s : State) (j : ℕ) (b : Bool) → is_atomic (kind_at kinds j) ≡ b → Told (if b then 1 else 0) (at_word k j) s
  word_told s j true h = inr (here_so s (nat_eq k j) (only j (or_left (is_atomic (kind_at kinds j)) (is_published (kind_at kinds j)) h)))
  word_told s j false h = inl refl

  target_told : (s : State) (j : ℕ) (b : Bool) → is_shared (kind_at kinds j) ≡ b → Told (if b then 1 else 0) (at_word k j) s
  target_told s j true h = inr (here_so s (nat_eq k j) (only j h))
  target_told s j false h = inl refl

  mutual
    reads_told : (s : State) (e : Expression) → Told (reads_made kinds s e) (read_where k e) s
    reads_told s (number w n) = inl refl
    reads_told s (word j) = word_told s j (is_atomic (kind_at kinds j)) refl
    reads_told s (next_word j) = word_told s j (is_atomic (kind_at kinds j)) refl
    reads_told s (inverse w a) = reads_told s a
    reads_told s (binary o w a b) = either_told (read_where k a) (read_where k b) (reads_made kinds s a) (reads_made kinds s b) s (reads_told s a) (reads_told s b)
    reads_told s (shifted d w a n) = reads_told s a
    reads_told s (choice f a b) =
        either_told (tested_where k f) (either (under f (read_where k a)) (under (negation f) (read_where k b))) (tests_made kinds s f) (cond (holds f s s) (reads_made kinds s a) (reads_made kinds s b)) s (tests_told s f)
        (choice_told f (read_where k a) (read_where k b) (reads_made kinds s a) (reads_made kinds s b) s (holds f s s) refl (reads_told s a) (reads_told s b))

    tests_told : (s : State) (f : Proposition) → Told (tests_made kinds s f) (tested_where k f) s
    tests_told s (truth b) = inl refl
    tests_told s (negation f) = tests_told s f
    tests_told s (connected c f g) = either_told (tested_where k f) (tested_where k g) (tests_made kinds s f) (tests_made kinds s g) s (tests_told s f) (tests_told s g)
    tests_told s (compared c a b) = either_told (read_where k a) (read_where k b) (reads_made kinds s a) (reads_made kinds s b) s (reads_told s a) (reads_told s b)

  after_told : (s : State) (test : Option Proposition) (n : ℕ) (o : Option Proposition) → Told n o s → Told (tested_made kinds s test n) (after_test k test o) s
  after_told s None n o t = t
  after_told s (Some f) n o t = either_told (tested_where k f) (under f o) (tests_made kinds s f) (cond (holds f s s) n 0) s (tests_told s f) (by (holds f s s) refl)
    where
      by : (v : Bool) → holds f s s ≡ v → Told (cond v n 0) (under f o) s
      by true h = under_told f o n s h t
      by false h = inl refl

  change_told : (s : State) (a : Assignment) → Told (change_made kinds s a) (change_where k a) s
  change_told s a =
      after_told s (change_of a).test (reads_made kinds s (change_of a).value + (if stores kinds a then 1 else 0)) (either (read_where k (change_of a).value) (at_word k a.target))
      (either_told (read_where k (change_of a).value) (at_word k a.target) (reads_made kinds s (change_of a).value) (if stores kinds a then 1 else 0) s (reads_told s (change_of a).value) (target_told s a.target (stores kinds a) refl))

  changes_told : (s : State) (act : List Assignment) → Told (changes_made kinds s act) (changes_where k act) s
  changes_told s [] = inl refl
  changes_told s (a ∷ act) =
      let x = value_of a.value s s in
      let next = slice_set s a.target x in
      either_told (change_where k a) (freed a.target (changes_where k act)) (change_made kinds s a) (changes_made kinds next act) s (change_told s a)
      (elim (changes_told next act) [ inl none ↦ inl none | inr some ↦ inr (freed_so (changes_where k act) a.target x s some) ])

  step_told : (s : State) (guard : Option Proposition) (act : List Assignment) → Told (step_made kinds s guard act) (step_where k guard act) s
  step_told s guard act = after_told s guard (changes_made kinds s act) (changes_where k act) (changes_told s act)

-- where one word alone is counted, no other is
only_alone : (words : List Word) (k j : ℕ) → is_shared (kind_at (alone words k) j) ≡ true → nat_eq k j ≡ true
only_alone words k j h = elim (cases_lt j (length words)) [
  | inl l ↦
      by (nat_eq k j) refl
      (ap (λ (kind : Kind). is_shared kind) (sym (get_or-map-range_with_len (λ i. if nat_eq k i then Atomic else Own) 0 (length words) j j Own l (omega arith))) ∙ h)
  | inr g ↦
      let size = length-map-range_with_len (λ i. if nat_eq k i then Atomic else Own) 0 (length words) in
      absurd (true≢false (sym h ∙ ap (λ (kind : Kind). is_shared kind) (get_or_past (alone words k) j Own (omega (arith, g, size)))))
]
  where
    by : (b : Bool) → nat_eq k j ≡ b → is_shared (if b then Atomic else Own) ≡ true → nat_eq k j ≡ true
    by true e t = e
    by false e t = cc t

-- a formula that holds
some_so : (o : Option Proposition) (s : State) → so o s ≡ true → (f : Proposition) × (o ≡ Some f) × (holds_at f s ≡ true)
some_so None s h = cc h
some_so (Some f) s h = (f, refl, h)

pub accesses_are_where : AccessesAreWhere
accesses_are_where words k state s h =
    let n = step_made (alone words k) state s.guard s.act in
    some_so (step_where k s.guard s.act) state (elim (step_told (alone words k) k (only_alone words k) state s.guard s.act) [
      | inl none ↦ absurd (true≢false (sym (eq-eqb n 0 none) ∙ not-true (nat_eq n 0) h))
      | inr some ↦ some
    ])
