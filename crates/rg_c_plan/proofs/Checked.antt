-- The tests that the code makes of kinds decide whether they are sound.
use Rattle.std.proofs.Common.{◌≡◌, ◌∙◌, ℕ, suc, get_or, ◌+◌, ◌<◌, Bool, true, false, not, ◌&&◌, List, [], ◌∷◌, Option, Some, None, length, cond, refl, ap, sym, subst, arith}
use Rattle.std.specs.Bool.{Decides}
use Rattle.std.specs.List.{AllPairs, list_any}
use Rattle.std.specs.Option.{option_map_or}
use Rattle.std.proofs.lemmas.Bool.{true≢false, not-true, not_from_false, false_from_ne_true, or_parts, or_from, and_parts, and_from}
use Rattle.std.proofs.lemmas.List.FromFn.{length-map-range_with_len, get_or-map-range_with_len}
use Rattle.std.proofs.lemmas.List.Kept.{AllPairs-cons}
use Rattle.rg_tree.specs.Statements.{ProgramTree}
use Rattle.rg_c_plan.specs.declared.access.Access.{Access}
use Rattle.rg_c_plan.specs.declared.order.Rank.{Rank}
use Rattle.rg_c_plan.specs.declared.planned.Unplanned.{Unplanned}
use Rattle.rg_c_plan.specs.declared.planned.Unplanned.TheVariants.{Wait}
use Rattle.rg_c_plan.specs.declared.kind.Kind.{Kind}
use Rattle.rg_c_plan.specs.declared.kind.Kind.TheVariants.{Fixed, Own, Apart, Published, Sheltered, Atomic, Guarded}
use Rattle.rg_c_plan.specs.Accesses.{accesses, world_access, is_fixed, is_touched, meet, some_meet}
use Rattle.rg_c_plan.specs.Apart.{is_apart, may_be_apart}
use Rattle.rg_c_plan.specs.Ways.{kind_at}
use Rattle.rg_c_plan.specs.Orders.{waiting}
use Rattle.rg_c_plan.specs.Views.{ViewTree, views}
use Rattle.rg_c_plan.specs.Kinds.{bare_kind, bare_kinds, is_crowded, kind_among, kind_of, kinds_of, failing, unplanned}
use Rattle.rg_c_plan.specs.Sound.{IsSound}
use Rattle.rg_c_plan.specs.Inner.Tests.{is_word_sound, are_words_sound}
use Rattle.rg_c_plan.proofs.Places.{all_at, all_from}
use Rattle.rg_c_plan.proofs.Lists.{all_fail, none_passes}

-- no two of these meet
abbrev NoneMeet : List Access → Type 0
NoneMeet xs = AllPairs (λ a b. meet a b ≡ false) xs

apart_from_test : (xs : List Access) → some_meet xs ≡ false → NoneMeet xs
apart_from_test [] h = λ i j d less within. absurd (omega (arith, within))
apart_from_test (x ∷ xs) h =
    let parts = or_parts (list_any (meet x) xs) (some_meet xs) h in
    AllPairs-cons (λ a b. meet a b ≡ false) x xs (all_fail (meet x) xs parts.0) (apart_from_test xs parts.1)

next_of : (x : Access) (xs : List Access) (k : ℕ) (d : Access) → get_or (x ∷ xs) (k + 1) d ≡ get_or xs k d
next_of x xs k d = let size : k + 1 ≡ suc k = omega arith in ap (λ n. get_or (x ∷ xs) n d) size

test_from_apart : (xs : List Access) → NoneMeet xs → some_meet xs ≡ false
test_from_apart [] h = refl
test_from_apart (x ∷ xs) h =
    or_from (list_any (meet x) xs) (some_meet xs)
    (none_passes (meet x) xs (λ k d less. ap (λ (y : Access). meet x y) (sym (next_of x xs k d)) ∙ h 0 (k + 1) d (omega arith) (omega (arith, less))))
    (test_from_apart xs (λ i j d less within.
    ap (λ (y : Access). meet y (get_or xs j d)) (sym (next_of x xs i d)) ∙ ap (λ (y : Access). meet (get_or (x ∷ xs) (i + 1) d) y) (sym (next_of x xs j d)) ∙ h (i + 1) (j + 1) d (omega (arith, less)) (omega (arith, within))))

module _ (p : ProgramTree) where
  -- what the test of a word says
  record WordIsSound (kind : Kind) (k : ℕ) : Type 0 where
    pub fixed : Decides (is_fixed p.words k) (kind ≡ Fixed)
    pub published : kind ≡ Published → ⊥
    pub sheltered : kind ≡ Sheltered → ⊥
    pub own : kind ≡ Own → some_meet (accesses p k) ≡ false
    pub apart : kind ≡ Apart → may_be_apart p k ≡ true
    pub guarded : kind ≡ Guarded → is_touched (world_access k p.words p.spec.rely) ≡ false

  word_is_sound : (kind : Kind) (k : ℕ) → is_word_sound p kind k ≡ true → WordIsSound kind k
  word_is_sound Fixed k h = record { fixed = (λ e. refl, λ e. h); published = λ e. cc e; sheltered = λ e. cc e; own = λ e. cc e; apart = λ e. cc e; guarded = λ e. cc e }
  word_is_sound Own k h =
      let parts = and_parts (not (is_fixed p.words k)) (not (some_meet (accesses p k))) h in
      let free = not-true (is_fixed p.words k) parts.0 in
      record { fixed = (λ e. absurd (true≢false (sym e ∙ free)), λ e. cc e); published = λ e. cc e; sheltered = λ e. cc e; own = λ e. not-true (some_meet (accesses p k)) parts.1; apart = λ e. cc e; guarded = λ e. cc e }
  word_is_sound Apart k h =
      let parts = and_parts (not (is_fixed p.words k)) (may_be_apart p k) h in
      let free = not-true (is_fixed p.words k) parts.0 in
      record { fixed = (λ e. absurd (true≢false (sym e ∙ free)), λ e. cc e); published = λ e. cc e; sheltered = λ e. cc e; own = λ e. cc e; apart = λ e. parts.1; guarded = λ e. cc e }
  word_is_sound Published k h = cc h
  word_is_sound Sheltered k h = cc h
  word_is_sound Atomic k h =
      let free = not-true (is_fixed p.words k) h in
      record { fixed = (λ e. absurd (true≢false (sym e ∙ free)), λ e. cc e); published = λ e. cc e; sheltered = λ e. cc e; own = λ e. cc e; apart = λ e. cc e; guarded = λ e. cc e }
  word_is_sound Guarded k h =
      let parts = and_parts (not (is_fixed p.words k)) (not (is_touched (world_access k p.words p.spec.rely))) h in
      let free = not-true (is_fixed p.words k) parts.0 in
      record { fixed = (λ e. absurd (true≢false (sym e ∙ free)), λ e. cc e); published = λ e. cc e; sheltered = λ e. cc e; own = λ e. cc e; apart = λ e. cc e; guarded = λ e. not-true (is_touched (world_access k p.words p.spec.rely)) parts.1 }

  free_word : (kind : Kind) (k : ℕ) → WordIsSound kind k → (kind ≡ Fixed → ⊥) → not (is_fixed p.words k) ≡ true
  free_word kind k w ne = not_from_false (is_fixed p.words k) (false_from_ne_true (is_fixed p.words k) (λ e. ne (w.fixed.0 e)))

  word_passes : (kind : Kind) (k : ℕ) → WordIsSound kind k → is_word_sound p kind k ≡ true
  word_passes Fixed k w = w.fixed.1 refl
  word_passes Own k w = and_from (not (is_fixed p.words k)) (not (some_meet (accesses p k))) (free_word Own k w (λ e. cc e)) (not_from_false (some_meet (accesses p k)) (w.own refl))
  word_passes Apart k w = and_from (not (is_fixed p.words k)) (may_be_apart p k) (free_word Apart k w (λ e. cc e)) (w.apart refl)
  word_passes Published k w = absurd (w.published refl)
  word_passes Sheltered k w = absurd (w.sheltered refl)
  word_passes Atomic k w = free_word Atomic k w (λ e. cc e)
  word_passes Guarded k w =
      and_from (not (is_fixed p.words k)) (not (is_touched (world_access k p.words p.spec.rely))) (free_word Guarded k w (λ e. cc e)) (not_from_false (is_touched (world_access k p.words p.spec.rely)) (w.guarded refl))

  -- kinds that pass the tests are sound
  pub sound_from_tests : (kinds : List Kind) (order : List (Option Rank)) → length kinds ≡ length p.words → are_words_sound p kinds ≡ true → waiting p order ≡ None →
      failing (views p order kinds) ≡ None → IsSound kinds order p
  sound_from_tests kinds order size words waits steps =
      record {
        count = size;
        fixed = λ k less. (word k less).fixed;
        published = λ k less. (word k less).published;
        sheltered = λ k less. (word k less).sheltered;
        own = λ k less e. apart_from_test (accesses p k) ((word k less).own e);
        apart = λ k less e. (word k less).apart e;
        guarded = λ k less e. (word k less).guarded e;
        waits = waits;
        steps = steps;
      }
    where
      word : (k : ℕ) → k < length p.words → WordIsSound (kind_at kinds k) k
      word k less = word_is_sound (kind_at kinds k) k (all_at (λ i. is_word_sound p (kind_at kinds i) i) 0 (length kinds) words k (omega arith) (omega (arith, less, size)))

  -- sound kinds pass the tests
  pub words_pass : (kinds : List Kind) (order : List (Option Rank)) → IsSound kinds order p → are_words_sound p kinds ≡ true
  words_pass kinds order sound =
      all_from (λ i. is_word_sound p (kind_at kinds i) i) 0 (length kinds) (λ k from to.
      let size = sound.count in
      let less : k < length p.words = omega (arith, to, size) in
      word_passes (kind_at kinds k) k (record {
        fixed = sound.fixed k less;
        published = sound.published k less;
        sheltered = sound.sheltered k less;
        own = λ e. test_from_apart (accesses p k) (sound.own k less e);
        apart = λ e. sound.apart k less e;
        guarded = λ e. sound.guarded k less e;
      }))

  -- the chosen kinds pass the test of a word
  chosen_kind : (apart : List Bool) (vs : List ViewTree) (k : ℕ) → is_word_sound p (kind_among p vs (bare_kind p apart k) k) k ≡ true
  chosen_kind apart vs k = by (is_fixed p.words k) refl
    where
      touched : Bool
      touched = is_touched (world_access k p.words p.spec.rely)

      crowded : (t c : Bool) → touched ≡ t → not (is_fixed p.words k) ≡ true → is_word_sound p (cond (not t && c) Guarded Atomic) k ≡ true
      crowded true c e free = free
      crowded false true e free = and_from (not (is_fixed p.words k)) (not touched) free (not_from_false touched e)
      crowded false false e free = free

      meeting : (m : Bool) → some_meet (accesses p k) ≡ m → not (is_fixed p.words k) ≡ true → is_word_sound p (kind_among p vs (cond (not m) Own Atomic) k) k ≡ true
      meeting true e free = crowded touched (is_crowded vs k) refl free
      meeting false e free = and_from (not (is_fixed p.words k)) (not (some_meet (accesses p k))) free (not_from_false (some_meet (accesses p k)) e)

      kept : (b : Bool) → (is_apart apart k && may_be_apart p k) ≡ b → not (is_fixed p.words k) ≡ true →
          is_word_sound p (kind_among p vs (cond b Apart (cond (not (some_meet (accesses p k))) Own Atomic)) k) k ≡ true
      kept true e free = and_from (not (is_fixed p.words k)) (may_be_apart p k) free (and_parts (is_apart apart k) (may_be_apart p k) e).1
      kept false e free = meeting (some_meet (accesses p k)) refl free

      by : (b : Bool) → is_fixed p.words k ≡ b →
          is_word_sound p (kind_among p vs (cond b Fixed (cond (is_apart apart k && may_be_apart p k) Apart (cond (not (some_meet (accesses p k))) Own Atomic))) k) k ≡ true
      by true e = e
      by false e = kept (is_apart apart k && may_be_apart p k) refl (not_from_false (is_fixed p.words k) e)

  pub bare_at : (apart : List Bool) (k : ℕ) → k < length p.words → kind_at (bare_kinds p apart) k ≡ bare_kind p apart k
  bare_at apart k less = get_or-map-range_with_len (bare_kind p apart) 0 (length p.words) k k Own less (omega arith)

  kinds_length : (order : List (Option Rank)) (apart : List Bool) → length (kinds_of p order apart) ≡ length p.words
  kinds_length order apart = length-map-range_with_len (kind_of p order apart) 0 (length p.words)

  -- where nothing is refused, no part waits, and no step fails
  none_refused : (o : Option ℕ) (r : Option Unplanned) → option_map_or (λ row. Some (Wait row)) o r ≡ None → (o ≡ None) × (r ≡ None)
  none_refused None r h = (refl, h)
  none_refused (Some row) r h = cc h

  -- where nothing is refused, they are sound
  pub chosen_sound : (order : List (Option Rank)) (apart : List Bool) → unplanned p order apart ≡ None → IsSound (kinds_of p order apart) order p
  chosen_sound order apart none =
      let parts = none_refused (waiting p order) (failing (views p order (kinds_of p order apart))) none in
      sound_from_tests (kinds_of p order apart) order (kinds_length order apart)
      (all_from (λ i. is_word_sound p (kind_at (kinds_of p order apart) i) i) 0 (length (kinds_of p order apart)) (λ k from to.
      let size = kinds_length order apart in
      let less : k < length p.words = omega (arith, to, size) in
      let is : kind_at (kinds_of p order apart) k ≡ kind_of p order apart k = get_or-map-range_with_len (kind_of p order apart) 0 (length p.words) k k Own less (omega arith) in
      subst (λ (kind : Kind). is_word_sound p kind k ≡ true) (sym is) (chosen_kind apart (views p order (bare_kinds p apart)) k)))
      parts.0 parts.1
