-- Settings stand for values exactly where they have no faults, and then for these.
use Rattle.std.proofs.Common.{◌≡◌, ◌≢◌, ℕ, ◌<◌, ◌≤◌, ◌^◌, Bool, true, false, ◌||◌, List, [], ◌∷◌, ◌++◌, length, replicate, get_or, refl, sym, ap, subst, ◌∙◌, arith, inl, inr, length-append}
use Rattle.std.specs.Prelude.{Option, Some, None, All, ◌⊎◌, not, nat_lt, nat_le}
use Rattle.std.specs.Option.{unwrap_or}
use Rattle.std.specs.Str.{bytes_eq}
use Rattle.std.proofs.lemmas.Bool.{ltb-true, leb-true, not-true, lt-ltb, le-leb}
use Rattle.std.proofs.lemmas.List.{length-map, get_or_append_left}
use Rattle.std.proofs.Math.Seq.{get_or-append_seam}
use Rattle.std.proofs.lemmas.List.Elements.{All-head, All-tail, All-cons}
use Rattle.std.proofs.lemmas.List.Quantifiers.{position-Some}
use Rattle.std.proofs.lemmas.Slice.Eq.{bytes_eq-Decides}
use Rattle.rg_words.specs.declared.limits.TheConstants.{MOST_PLAIN_NUMBER}
use Rattle.rg_words.specs.declared.refusal.RefusalNumber.TheVariants.{NameTwice, NumberTooLarge}
use Rattle.rg_words.specs.declared.refusal.Refusal.{Refusal}
use Rattle.rg_words.specs.declared.refusal.SourceFile.{SourceFile}
use Rattle.rg_words.specs.Refusals.{no_memory}
use Rattle.rg_words.specs.Layout.{Word, index_of, widths_of}
use Rattle.rg_tree.specs.declared.moves.WordValue.{WordValue}
use Rattle.rg_tree.specs.Moves.{MoveTree, given, IsValueOf, OnePerWord, IsChange, AreMoves}
use Rattle.rg_syntax.specs.Written as written
use Rattle.rg_syntax.specs.Written.{SettingTree}
use Rattle.rg_resolve.specs.Faults.{number_of, width_at, group_at, number_faults, faults_in_turn, IsRefusal}
use Rattle.rg_resolve.specs.Inner.FormulaTrees.{place_of}
use Rattle.rg_resolve.specs.Settings.{is_named, named_faults, setting_faults, settings_faults, move_faults, moves_faults, SettingStandsFor, StandAfter, SettingsStandFor, StartStandsFor, MoveStandsFor, MovesStandFor, OneStateOfSettings, OneListOfMoves, FaultlessStart, FaultlessMoves}
use Rattle.rg_leaves.proofs.Refusals.{no_faults, no_test}
use Rattle.rg_resolve.proofs.Typed.{none_left, none_right, unless-none, found_within}
use Rattle.rg_resolve.specs.Inner.SettingTrees.{word_value, word_values, move_tree, move_trees}

-- two names of one word are one name
pub one_name : (words : List Word) (n m : List ℕ) (k : ℕ) → index_of words n ≡ Some k → index_of words m ≡ Some k → n ≡ m
one_name [] n m k e d = cc
one_name (w ∷ ws) n m k e d =
    let first = position-Some (λ v. bytes_eq n v.name) (w ∷ ws) k w e in
    let second = position-Some (λ v. bytes_eq m v.name) (w ∷ ws) k w d in
    (bytes_eq-Decides n _).0 first.1 ∙ sym ((bytes_eq-Decides m _).0 second.1)

-- the words that these settings name are those of these values
abbrev pub AreOf : List Word → List SettingTree → List WordValue → Type 0
AreOf words [] [] = Unit {0}
AreOf words (s ∷ ss) (v ∷ vs) = (index_of words s.word.text ≡ Some v.word) × AreOf words ss vs
AreOf words [] (v ∷ vs) = ⊥
AreOf words (s ∷ ss) [] = ⊥

are_of-more : (words : List Word) (ss : List SettingTree) (vs : List WordValue) (s : SettingTree) (v : WordValue) → AreOf words ss vs → index_of words s.word.text ≡ Some v.word → AreOf words (ss ++ s ∷ []) (vs ++ v ∷ [])
are_of-more words [] [] s v h e = (e, tt)
are_of-more words (t ∷ ts) (u ∷ us) s v h e = (h.0, are_of-more words ts us s v h.1 e)
are_of-more words [] (u ∷ us) s v h e = absurd h
are_of-more words (t ∷ ts) [] s v h e = absurd h

same_place : (words : List Word) (n m : List ℕ) (j k : ℕ) → index_of words n ≡ Some j → index_of words m ≡ Some k → n ≡ m → j ≡ k
same_place words n m j k e d same = by (sym e ∙ ap (λ t. index_of words t) same ∙ d)
  where
    by : Some j ≡ Some k → j ≡ k
    by h = cc

module _ (words : List Word) (name : List ℕ) (k : ℕ) (at : index_of words name ≡ Some k) where
  -- a word that has no value isn't named
  not_named : (ss : List SettingTree) (vs : List WordValue) → AreOf words ss vs → All (λ v. v.word ≢ k) vs → is_named ss name ≡ false
  not_named [] [] h others = refl
  not_named (s ∷ ss) (v ∷ vs) h others = by (bytes_eq name s.word.text) refl (not_named ss vs h.1 (All-tail (λ v. v.word ≢ k) v vs others))
    where
      by : (b : Bool) → bytes_eq name s.word.text ≡ b → is_named ss name ≡ false → (b || is_named ss name) ≡ false
      by true e rest = absurd (All-head (λ v. v.word ≢ k) v vs others (same_place words s.word.text name v.word k h.0 at (sym ((bytes_eq-Decides name _).0 e))))
      by false e rest = rest
  not_named [] (v ∷ vs) h others = absurd h
  not_named (s ∷ ss) [] h others = absurd h

  -- a word that isn't named has no value
  no_value : (ss : List SettingTree) (vs : List WordValue) → AreOf words ss vs → is_named ss name ≡ false → All (λ v. v.word ≢ k) vs
  no_value [] [] h unnamed = λ i d less. absurd (omega arith)
  no_value (s ∷ ss) (v ∷ vs) h unnamed = by (bytes_eq name s.word.text) refl unnamed (λ rest. no_value ss vs h.1 rest)
    where
      differ : bytes_eq name s.word.text ≡ false → name ≡ s.word.text → ⊥
      differ none same = let equal = (bytes_eq-Decides name s.word.text).1 same in cc

      by : (b : Bool) → bytes_eq name s.word.text ≡ b → (b || is_named ss name) ≡ false → (is_named ss name ≡ false → All (λ v. v.word ≢ k) vs) → All (λ v. v.word ≢ k) (v ∷ vs)
      by true e none rest = cc
      by false e none rest =
          All-cons (λ v. v.word ≢ k) v vs (λ same. differ e (one_name words name s.word.text k at (h.0 ∙ ap Some same))) (rest none)
  no_value [] (v ∷ vs) h unnamed = absurd h
  no_value (s ∷ ss) [] h unnamed = absurd h

-- what no fault of a setting says
pub record IsFine (words : List Word) (before : List SettingTree) (s : SettingTree) : Type 0 where
  pub word : index_of words s.word.text ≡ Some (place_of words s.word.text)
  pub new : is_named before s.word.text ≡ false
  pub small : number_of s.value.text < 2 ^ width_at words (place_of words s.word.text)

fine_by : (words : List Word) (before : List SettingTree) (s : SettingTree) (found : Option ℕ) → index_of words s.word.text ≡ found → named_faults before s.word found ++ number_faults (group_at words found) s.value.line (number_of s.value.text) ≡ [] → IsFine words before s
fine_by words before s None e h = cc
fine_by words before s (Some k) e h =
    let place : place_of words s.word.text ≡ k = ap (λ o. unwrap_or o 0) e in
    record {
      word = e ∙ ap Some (sym place);
      new = not-true _ (unless-none _ _ _ (none_left _ _ h));
      small = rw place (ltb-true _ _ (unless-none _ _ _ (none_right _ _ h)));
    }

fine : (words : List Word) (before : List SettingTree) (s : SettingTree) → setting_faults words before s ≡ [] → IsFine words before s
unfolding setting_faults
fine words before s h = fine_by words before s _ refl h

fine_faultless : (words : List Word) (before : List SettingTree) (s : SettingTree) (k : ℕ) → index_of words s.word.text ≡ Some k → is_named before s.word.text ≡ false → number_of s.value.text < 2 ^ width_at words k → setting_faults words before s ≡ []
unfolding setting_faults
fine_faultless words before s k e new small = rw e (no_faults _ _ (no_test (not (is_named before s.word.text)) NameTwice s.word.line (ap not new)) (no_test (nat_lt (number_of s.value.text) (2 ^ width_at words k)) NumberTooLarge s.value.line (lt-ltb _ _ small)))

-- settings without faults stand for their values
stand_after : (words : List Word) (before : List SettingTree) (others : List WordValue) (ss : List SettingTree) → AreOf words before others → faults_in_turn (setting_faults words) before ss ≡ [] → StandAfter words others ss (word_values words ss)
unfolding faults_in_turn
stand_after words before others [] of h = tt
stand_after words before others (s ∷ ss) of h =
    let here = fine words before s (none_left _ _ h) in (
      record { word = here.word; value = refl; small = here.small },
      no_value words s.word.text _ here.word before others of here.new,
      stand_after words (before ++ s ∷ []) (others ++ word_value words s ∷ []) ss (are_of-more words before others s (word_value words s) of here.word) (none_right _ _ h),
    )

-- and what stands for values has no faults
after_faultless : (words : List Word) (before : List SettingTree) (others : List WordValue) (ss : List SettingTree) (vs : List WordValue) → AreOf words before others → StandAfter words others ss vs → faults_in_turn (setting_faults words) before ss ≡ []
unfolding faults_in_turn
after_faultless words before others [] [] of h = refl
after_faultless words before others (s ∷ ss) (v ∷ vs) of h =
    let small = let P : ℕ → Type 0 = λ n. n < 2 ^ width_at words v.word in subst P (sym h.0.value) h.0.small in
    no_faults _ _ (fine_faultless words before s v.word h.0.word (not_named words s.word.text v.word h.0.word before others of h.1) small)
    (after_faultless words (before ++ s ∷ []) (others ++ v ∷ []) ss vs (are_of-more words before others s v of h.0.word) h.2)
after_faultless words before others [] (v ∷ vs) of h = absurd h
after_faultless words before others (s ∷ ss) [] of h = absurd h

value_is : (words : List Word) (s : SettingTree) (v : WordValue) → SettingStandsFor words s v → v ≡ word_value words s
value_is words s v h = by (ap (λ o. unwrap_or o 0) h.word) h.value
  where
    by : place_of words s.word.text ≡ v.word → number_of s.value.text ≡ v.value → v ≡ word_value words s
    by e d = rw (e, d) refl

after_values : (words : List Word) (others : List WordValue) (ss : List SettingTree) (vs : List WordValue) → StandAfter words others ss vs → vs ≡ word_values words ss
after_values words others [] [] h = refl
after_values words others (s ∷ ss) (v ∷ vs) h = rw (← value_is words s v h.0, ← after_values words (others ++ v ∷ []) ss vs h.2) refl
after_values words others [] (v ∷ vs) h = absurd h
after_values words others (s ∷ ss) [] h = absurd h

-- the values are of words that are there
after_each : (words : List Word) (others : List WordValue) (ss : List SettingTree) (vs : List WordValue) → StandAfter words others ss vs → All (IsValueOf (widths_of words)) vs
after_each words others [] [] h = λ i d less. absurd (omega arith)
after_each words others (s ∷ ss) (v ∷ vs) h =
    let here : IsValueOf (widths_of words) v = record { word = rw (length-map words (λ w. w.width)) (found_within words s.word.text v.word h.0.word); small = h.0.small } in
    All-cons (IsValueOf (widths_of words)) v vs here (after_each words (others ++ v ∷ []) ss vs h.2)
after_each words others [] (v ∷ vs) h = absurd h
after_each words others (s ∷ ss) [] h = absurd h

-- a value that stands before has another word than these
none_again : (words : List Word) (others : List WordValue) (ss : List SettingTree) (vs : List WordValue) (k : ℕ) (u : WordValue) → k < length others → get_or others k u ≡ u → StandAfter words others ss vs → All (λ v. v.word ≢ u.word) vs
none_again words others [] [] k u inside at h = λ i d less. absurd (omega arith)
none_again words others (s ∷ ss) (v ∷ vs) k u inside at h =
    let other : v.word ≢ u.word = λ same. h.1 k u inside (ap (λ (w : WordValue). w.word) at ∙ sym same) in
    let further : k < length (others ++ v ∷ []) = omega (arith, length-append others (v ∷ [])) in
    All-cons (λ v. v.word ≢ u.word) v vs other (none_again words (others ++ v ∷ []) ss vs k u further (get_or_append_left others (v ∷ []) u k inside ∙ at) h.2)
none_again words others [] (v ∷ vs) k u inside at h = absurd h
none_again words others (s ∷ ss) [] k u inside at h = absurd h

after_once : (words : List Word) (others : List WordValue) (ss : List SettingTree) (vs : List WordValue) → StandAfter words others ss vs → OnePerWord vs
after_once words others [] [] h = tt
after_once words others (s ∷ ss) (v ∷ vs) h =
    let inside : length others < length (others ++ v ∷ []) = omega (arith, length-append others (v ∷ [])) in
    (none_again words (others ++ v ∷ []) ss vs (length others) v inside (get_or-append_seam others v [] v) h.2, after_once words (others ++ v ∷ []) ss vs h.2)
after_once words others [] (v ∷ vs) h = absurd h
after_once words others (s ∷ ss) [] h = absurd h

pub settings_stand : (words : List Word) (ss : List SettingTree) → settings_faults words ss ≡ [] → SettingsStandFor words ss (word_values words ss)
settings_stand words ss h = stand_after words [] [] ss tt h

pub settings_faultless : (words : List Word) (ss : List SettingTree) (vs : List WordValue) → SettingsStandFor words ss vs → settings_faults words ss ≡ []
settings_faultless words ss vs h = after_faultless words [] [] ss vs tt h

pub settings_values : (words : List Word) (ss : List SettingTree) (vs : List WordValue) → SettingsStandFor words ss vs → vs ≡ word_values words ss
settings_values words ss vs h = after_values words [] ss vs h

pub settings_change : (words : List Word) (ss : List SettingTree) (vs : List WordValue) → SettingsStandFor words ss vs → IsChange words vs
settings_change words ss vs h = record { each = after_each words [] ss vs h; once = after_once words [] ss vs h }

-- a state
pub start_stands : (words : List Word) (ss : List SettingTree) (vs : List WordValue) (state : List ℕ) → settings_faults words ss ≡ [] → vs ≡ word_values words ss → state ≡ given vs (replicate (length words) 0) → StartStandsFor words ss state
start_stands words ss vs state h same is = record { values = word_values words ss; stand = settings_stand words ss h; is = rw (← same) is }

pub one_start : OneStateOfSettings
one_start words ss s t h g =
    h.is ∙ ap (λ vs. given vs (replicate (length words) 0)) (settings_values words ss h.values h.stand ∙ sym (settings_values words ss g.values g.stand)) ∙ sym g.is

pub faultless_start : FaultlessStart
faultless_start words ss = (λ h. (_, start_stands words ss (word_values words ss) _ h refl refl), λ s. settings_faultless words ss s.1.values s.1.stand)

-- moves
move_stands : (words : List Word) (m : written.WrittenMove) → move_faults words m ≡ [] → MoveStandsFor words m (move_tree words m)
unfolding move_faults
move_stands words m h = record { at = refl; small = leb-true _ _ (unless-none _ _ _ (none_left _ _ h)); values = settings_stand words m.settings (none_right _ _ h) }

pub moves_stand : (words : List Word) (ms : List written.WrittenMove) → moves_faults words ms ≡ [] → MovesStandFor words ms (move_trees words ms)
moves_stand words [] h = tt
moves_stand words (m ∷ ms) h = (move_stands words m (none_left _ _ h), moves_stand words ms (none_right _ _ h))

pub moves_change : (words : List Word) (ms : List written.WrittenMove) (ts : List MoveTree) → MovesStandFor words ms ts → AreMoves words ts
moves_change words [] [] h = tt
moves_change words (m ∷ ms) (t ∷ ts) h = (settings_change words m.settings t.values h.0.values, moves_change words ms ts h.1)
moves_change words [] (t ∷ ts) h = absurd h
moves_change words (m ∷ ms) [] h = absurd h

move_is : (words : List Word) (m : written.WrittenMove) (t : MoveTree) → MoveStandsFor words m t → t ≡ move_tree words m
move_is words m t h = by (sym h.at) (settings_values words m.settings t.values h.values)
  where
    by : t.at ≡ number_of m.number.text → t.values ≡ word_values words m.settings → t ≡ move_tree words m
    by e d = rw (← e, ← d) refl

moves_are : (words : List Word) (ms : List written.WrittenMove) (ts : List MoveTree) → MovesStandFor words ms ts → ts ≡ move_trees words ms
moves_are words [] [] h = refl
moves_are words (m ∷ ms) (t ∷ ts) h = rw (← move_is words m t h.0, ← moves_are words ms ts h.1) refl
moves_are words [] (t ∷ ts) h = absurd h
moves_are words (m ∷ ms) [] h = absurd h

moves_faultless : (words : List Word) (ms : List written.WrittenMove) (ts : List MoveTree) → MovesStandFor words ms ts → moves_faults words ms ≡ []
unfolding move_faults
moves_faultless words [] [] h = refl
moves_faultless words (m ∷ ms) (t ∷ ts) h =
    let small = let P : ℕ → Type 0 = λ n. n ≤ MOST_PLAIN_NUMBER in subst P (sym h.0.at) h.0.small in
    no_faults _ _ (no_faults _ _ (no_test (nat_le (number_of m.number.text) MOST_PLAIN_NUMBER) NumberTooLarge m.number.line (le-leb _ _ small)) (settings_faultless words m.settings t.values h.0.values)) (moves_faultless words ms ts h.1)
moves_faultless words [] (t ∷ ts) h = absurd h
moves_faultless words (m ∷ ms) [] h = absurd h

pub one_list_of_moves : OneListOfMoves
one_list_of_moves words ms s t h g = moves_are words ms s h ∙ sym (moves_are words ms t g)

pub faultless_moves : FaultlessMoves
faultless_moves words ms = (λ h. (_, moves_stand words ms h), λ s. moves_faultless words ms s.0 s.1)

-- a refusal that isn't want of memory reports a fault
pub refused_start : (words : List Word) (ss : List SettingTree) (file : SourceFile) (refusal : Refusal) → IsRefusal file (settings_faults words ss) refusal → (refusal ≡ no_memory) ⊎ ((s : List ℕ) → StartStandsFor words ss s → ⊥)
refused_start words ss file refusal h = elim h.cause [ inl e ↦ inl e | inr e ↦ inr (λ s g. rw (settings_faultless words ss g.values g.stand) at e) ]

pub refused_moves : (words : List Word) (ms : List written.WrittenMove) (file : SourceFile) (refusal : Refusal) → IsRefusal file (moves_faults words ms) refusal → (refusal ≡ no_memory) ⊎ ((ts : List MoveTree) → MovesStandFor words ms ts → ⊥)
refused_moves words ms file refusal h = elim h.cause [ inl e ↦ inl e | inr e ↦ inr (λ ts g. rw (moves_faultless words ms ts g) at e) ]

pub moves_stand_as : (words : List Word) (ms : List written.WrittenMove) (ts : List MoveTree) → moves_faults words ms ≡ [] → ts ≡ move_trees words ms → MovesStandFor words ms ts
moves_stand_as words ms ts h same = rw same (moves_stand words ms h)

pub values_fit : (words : List Word) (ss : List SettingTree) (vs : List WordValue) (widths : List ℕ) → settings_faults words ss ≡ [] → vs ≡ word_values words ss → widths ≡ widths_of words → All (IsValueOf widths) vs
values_fit words ss vs widths h same wide = rw (same, wide) (after_each words [] ss _ (settings_stand words ss h))
