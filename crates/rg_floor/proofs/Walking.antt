-- Steps of the walk along a history.
use Rattle.std.proofs.Common.{◌≡◌, ℕ, ◌+◌, ◌<◌, ◌≤◌, List, [], ◌∷◌, length, drop, get_or, map, ⊎_elim, sym, ap, ◌∙◌, subst, arith, drop-cons, add-one}
use Rattle.std.proofs.lemmas.List.{drop-map}
use Rattle.std.proofs.lemmas.Bool.{cases_lt}
use Rattle.std.proofs.Math.ListN.{drop_of_length-le}
use Rattle.rg_words.specs.Layout.{Word}
use Rattle.rg_tree.specs.Trees.{Proposition}
use Rattle.rg_tree.specs.Moves.{MoveTree, given}
use Rattle.rg_tree.specs.Traces.{State}
use Rattle.rg_code.specs.Code.{BlockTree, zeros}
use Rattle.rg_machine.specs.Machine.{Configuration, IsStepOf, CanStep}
use Rattle.rg_machine.specs.Replay.{IsMoveTo}
use Rattle.rg_monitor.specs.Entry.{Entry}
use Rattle.rg_floor.specs.declared.closed.Passed.{Passed}
use Rattle.rg_floor.specs.Moves.{Place, first_place, IsDue, IsRefusedAt, with_state, following_step, after_move, MovesStand, AllStand, ByPart, ByMove, Refused}
use Rattle.rg_floor.specs.Inner.Walking.{place_of, RestStands, GoesPast, GoesPastOne}
use Rattle.rg_floor.specs.declared.walk.Walk.{Walk}

-- ---- what is left of a list after its item at a place

pub drop_get : {A : Type 0} (xs : List A) (i : ℕ) (d : A) → i < length xs → drop i xs ≡ get_or xs i d ∷ drop (i + 1) xs
drop_get xs i d h = rw add-one (drop-cons xs i d h)

pub drop_at : {A : Type 0} (xs : List A) (i : ℕ) (x : A) → x ≡ get_or xs i x → i < length xs → drop i xs ≡ x ∷ drop (i + 1) xs
drop_at xs i x is h = drop_get xs i x h ∙ ap (λ y. y ∷ drop (i + 1) xs) (sym is)

pub drop_mapped : {A B : Type 0} (f : A → B) (xs : List A) (i : ℕ) (x : A) → x ≡ get_or xs i x → i < length xs → drop i (map f xs) ≡ f x ∷ drop (i + 1) (map f xs)
drop_mapped f xs i x is h = drop-map f i xs ∙ ap (map f) (drop_at xs i x is h) ∙ ap (λ l. f x ∷ l) (sym (drop-map f (i + 1) xs))

-- ---- who can step

pub one_more : (c : Configuration) (i : ℕ) → ((j : ℕ) → 0 < j → j ≤ i → CanStep c j → ⊥) → (CanStep c (i + 1) → ⊥) → (j : ℕ) → 0 < j → j ≤ i + 1 → CanStep c j → ⊥
one_more c i before here j some most can =
    ⊎_elim
    (λ less. before j some (omega arith) can)
    (λ ge. let same : j ≡ i + 1 = omega arith in here (subst (λ k. CanStep c k) same can))
    (cases_lt j (i + 1))

-- ---- records and refused moves are gone past

pub moved_is : (c : Configuration) (t : State) (d : Configuration) → IsMoveTo c t d → d ≡ with_state c t
moved_is c t d h = λ i. record { words = h.words i; codes = h.codes i; state = h.state i; places = h.places i }

module _ (limit : ℕ) (moves : List MoveTree) (v w : Walk) (r : Entry) where
  pub past_move : (m : MoveTree) → drop v.moves moves ≡ m ∷ drop (v.moves + 1) moves → r.who ≡ 0 → IsDue limit (place_of v) m.at → r.after ≡ given m.values v.config.state
      → w.config ≡ with_state v.config r.after → w.records ≡ v.records + 1 → w.own ≡ v.own → w.moves ≡ v.moves + 1 → w.passed ≡ v.passed → GoesPastOne limit moves v w r
  past_move m next who due after config records own met passed' rely passed rs h =
      let P : Place → ℕ → ℕ → Type 0 = λ x y z. MovesStand rely limit x (y + 1) (drop y moves) (drop z passed) rs in
      let there : place_of w ≡ after_move (place_of v) r.after = λ i. record { at = config i; records = records i; own = own i } in
      let h' : P (after_move (place_of v) r.after) (v.moves + 1) v.passed =
      subst (λ (z : ℕ). P (after_move (place_of v) r.after) (v.moves + 1) z) passed' (subst (λ (y : ℕ). P (after_move (place_of v) r.after) y w.passed) met (subst (λ (x : Place). P x w.moves w.passed) there h)) in
      let Q : List MoveTree → Type 0 = λ ms. MovesStand rely limit (place_of v) (v.moves + 1) ms (drop v.passed passed) (r ∷ rs) in
      subst Q (sym next) (ByMove m r who due after h')

  pub past_step : 0 < r.who → IsStepOf v.config r.who w.config → r.after ≡ w.config.state → w.records ≡ v.records + 1 → w.own ≡ v.own + 1 → w.moves ≡ v.moves → w.passed ≡ v.passed → GoesPastOne limit moves v w r
  past_step some step after records own met passed' rely passed rs h =
      let P : Place → ℕ → ℕ → Type 0 = λ x y z. MovesStand rely limit x (y + 1) (drop y moves) (drop z passed) rs in
      let there : place_of w ≡ following_step (place_of v) w.config = λ i. record { at = w.config; records = records i; own = own i } in
      let h' : P (following_step (place_of v) w.config) v.moves v.passed =
      subst (λ (z : ℕ). P (following_step (place_of v) w.config) v.moves z) passed' (subst (λ (y : ℕ). P (following_step (place_of v) w.config) y w.passed) met (subst (λ (x : Place). P x w.moves w.passed) there h)) in
      ByPart r w.config some step after h'

-- one refused move more
pub pass_one : (rely : Proposition) (limit : ℕ) (moves : List MoveTree) (passed : List Passed) (v w : Walk) (m : MoveTree) (q : Passed) (w' : Walk)
    → GoesPast rely limit moves passed v w [] → IsRefusedAt rely limit (place_of w) (w.moves + 1) m q → drop w.moves moves ≡ m ∷ drop (w.moves + 1) moves → drop w.passed passed ≡ q ∷ drop (w.passed + 1) passed
    → place_of w' ≡ place_of w → w'.moves ≡ w.moves + 1 → w'.passed ≡ w.passed + 1 → GoesPast rely limit moves passed v w' []
pass_one rely limit moves passed v w m q w' so_far refused next next_entry same met met_entry rs h =
    let P : Place → ℕ → ℕ → Type 0 = λ x y z. MovesStand rely limit x (y + 1) (drop y moves) (drop z passed) rs in
    let h' : P (place_of w) (w.moves + 1) (w.passed + 1) =
    subst (λ (z : ℕ). P (place_of w) (w.moves + 1) z) met_entry (subst (λ (y : ℕ). P (place_of w) y w'.passed) met (subst (λ (x : Place). P x w'.moves w'.passed) same h)) in
    let Q : List MoveTree → List Passed → Type 0 = λ ms qs. MovesStand rely limit (place_of w) (w.moves + 1) ms qs rs in
    so_far rs (subst (λ (qs : List Passed). Q (drop w.moves moves) qs) (sym next_entry) (subst (λ (ms : List MoveTree). Q ms (q ∷ drop (w.passed + 1) passed)) (sym next) (Refused m q refused h')))

-- ---- the whole walk

-- the moves refused here, and then a record
pub past_both : (rely : Proposition) (limit : ℕ) (moves : List MoveTree) (passed : List Passed) (v w x : Walk) (r : Entry) (rs rest : List Entry)
    → GoesPast rely limit moves passed v w [] → GoesPastOne limit moves w x r → rs ≡ r ∷ rest → RestStands rely limit moves passed x rest → RestStands rely limit moves passed v rs
past_both rely limit moves passed v w x r rs rest refused one is h =
    let P : List Entry → Type 0 = λ l. RestStands rely limit moves passed v l in
    subst P (sym is) (refused (r ∷ rest) (one rely passed rest h))

-- where all moves and all entries were met, nothing is left to stand
pub all_stand : (rely : Proposition) (limit : ℕ) (moves : List MoveTree) (passed : List Passed) (w : Walk) → length moves ≤ w.moves → length passed ≤ w.passed → RestStands rely limit moves passed w []
all_stand rely limit moves passed w all_moves all_passed =
    let P : List MoveTree → List Passed → Type 0 = λ ms qs. MovesStand rely limit (place_of w) (w.moves + 1) ms qs [] in
    let x : drop w.moves moves ≡ [] = drop_of_length-le moves all_moves in
    let y : drop w.passed passed ≡ [] = drop_of_length-le passed all_passed in
    subst (λ (qs : List Passed). P (drop w.moves moves) qs) (sym y) (subst (λ (ms : List MoveTree). P ms []) (sym x) AllStand)

-- a walk that is begun at the first places
pub begins : (rely : Proposition) (limit : ℕ) (moves : List MoveTree) (passed : List Passed) (w : Walk) (words own_words : List Word) (codes : List (List BlockTree)) (start : State) (steps : List Entry)
    → w ≡ record { config = record { words = own_words; codes = codes; state = start; places = zeros codes }; records = 0; own = 0; moves = 0; passed = 0 } → own_words ≡ words
    → RestStands rely limit moves passed w steps → MovesStand rely limit (first_place words codes start) 1 moves passed steps
begins rely limit moves passed w words own_words codes start steps e same h =
    let P : List Word → Type 0 = λ ws. MovesStand rely limit (first_place ws codes start) 1 moves passed steps in
    subst P same (subst (λ (x : Walk). RestStands rely limit moves passed x steps) e h)
