-- The formulas that say where steps access a word are typed.
use Rattle.std.proofs.Common.{◌≡◌, ℕ, zero, suc, Bool, true, false, nat_eq, cond, List, [], ◌∷◌, ◌++◌, Option, Some, None, subst}
use Rattle.std.specs.Prelude.{slice_get, slice_index, if◌then◌else◌}
use Rattle.rg_words.specs.Layout.{Word, widths_of}
use Rattle.rg_tree.specs.Trees.{Expression, Proposition, Assignment, number, word, next_word, inverse, binary, shifted, choice, truth, negation, connected, compared}
use Rattle.rg_tree.specs.Statements.{Statement, skip, assign, await, sequence, branch, loop, Items, one, more, PartTree}
use Rattle.rg_tree.specs.ConditionTrees.{AssignmentsTyped}
use Rattle.rg_tree.specs.Typing.{HasWidth, IsTyped}
use Rattle.rg_tree.specs.TypedPrograms.{IsTypedStatement, AreTypedItems, AreTypedParts}
use Rattle.rg_c_plan.specs.Changes.{ChangeTree, is_word, moves, moving, change_by, change_of}
use Rattle.rg_c_plan.specs.Accesses.{StepTree, steps, steps_of_items, stands_in_formula}
use Rattle.rg_c_plan.specs.Where.{either, under, at_word, read_where, tested_where, after_test, change_where, freed, changes_where, step_where}

-- a formula is typed, if there is one
abbrev pub SiteTyped : List ℕ → Option Proposition → Type 0
SiteTyped widths None = Unit {0}
SiteTyped widths (Some f) = IsTyped widths f

module _ (widths : List ℕ) where
  either_typed : (a b : Option Proposition) → SiteTyped widths a → SiteTyped widths b → SiteTyped widths (either a b)
  either_typed None b s t = t
  either_typed (Some f) None s t = s
  either_typed (Some f) (Some g) s t = (s, t)

  under_typed : (f : Proposition) (o : Option Proposition) → IsTyped widths f → SiteTyped widths o → SiteTyped widths (under f o)
  under_typed f None h s = tt
  under_typed f (Some g) h s = (h, s)

  flag_typed : (b : Bool) → SiteTyped widths (if b then Some (truth true) else None)
  flag_typed true = tt
  flag_typed false = tt

  module _ (k : ℕ) where
    mutual
      read_typed : (e : Expression) (w : ℕ) → HasWidth widths e w → SiteTyped widths (read_where k e)
      read_typed (number v n) w h = tt
      read_typed (word j) w h = flag_typed (nat_eq k j)
      read_typed (next_word j) w h = flag_typed (nat_eq k j)
      read_typed (inverse v a) w h = read_typed a w h.1
      read_typed (binary o v a b) w h = either_typed (read_where k a) (read_where k b) (read_typed a w h.1) (read_typed b w h.2)
      read_typed (shifted d v a n) w h = read_typed a w h.1
      read_typed (choice f a b) w h =
          either_typed (tested_where k f) (either (under f (read_where k a)) (under (negation f) (read_where k b))) (tested_typed f h.0)
          (either_typed (under f (read_where k a)) (under (negation f) (read_where k b)) (under_typed f (read_where k a) h.0 (read_typed a w h.1)) (under_typed (negation f) (read_where k b) h.0 (read_typed b w h.2)))

      tested_typed : (f : Proposition) → IsTyped widths f → SiteTyped widths (tested_where k f)
      tested_typed (truth b) h = tt
      tested_typed (negation f) h = tested_typed f h
      tested_typed (connected c f g) h = either_typed (tested_where k f) (tested_where k g) (tested_typed f h.0) (tested_typed g h.1)
      tested_typed (compared c a b) h = either_typed (read_where k a) (read_where k b) (read_typed a h.0 h.1) (read_typed b h.0 h.2)

    after_typed : (test o : Option Proposition) → SiteTyped widths test → SiteTyped widths o → SiteTyped widths (after_test k test o)
    after_typed None o t s = s
    after_typed (Some f) o t s = either_typed (tested_where k f) (under f o) (tested_typed f t) (under_typed f o t s)

    -- what an assignment changes is typed as its value
    abbrev ChangeTyped : ChangeTree → ℕ → Type 0
    ChangeTyped c w = SiteTyped widths c.test × HasWidth widths c.value w

    changed_typed : (j : ℕ) (e : Expression) (w : ℕ) → HasWidth widths e w → ChangeTyped (change_by j e) w
    changed_typed j (number v n) w h = (tt, h)
    changed_typed j (word i) w h = (tt, h)
    changed_typed j (next_word i) w h = (tt, h)
    changed_typed j (inverse v a) w h = (tt, h)
    changed_typed j (binary o v a b) w h = (tt, h)
    changed_typed j (shifted d v a n) w h = (tt, h)
    changed_typed j (choice f a b) w h = by (is_word j b)
      where
        by : (t : Bool) → ChangeTyped (if t then record { test = Some f; value = a } else record { test = None; value = choice f a b }) w
        by true = (h.0, h.1)
        by false = (tt, h)

    change_typed : (a : Assignment) (w : ℕ) → HasWidth widths a.value w → SiteTyped widths (change_where k a)
    change_typed a w h =
        let c = changed_typed a.target a.value w h in
        after_typed (change_of a).test (either (read_where k (change_of a).value) (at_word k a.target)) c.0
        (either_typed (read_where k (change_of a).value) (at_word k a.target) (read_typed (change_of a).value w c.1) (flag_typed (nat_eq k a.target)))

    freed_typed : (j : ℕ) (o : Option Proposition) → SiteTyped widths o → SiteTyped widths (freed j o)
    freed_typed j None s = tt
    freed_typed j (Some f) s = by (stands_in_formula j f)
      where
        by : (t : Bool) → IsTyped widths (if t then truth true else f)
        by true = tt
        by false = s

    changes_typed : (act : List Assignment) → AssignmentsTyped widths act → SiteTyped widths (changes_where k act)
    changes_typed [] t = tt
    changes_typed (a ∷ act) t =
        either_typed (change_where k a) (freed a.target (changes_where k act)) (change_typed a (slice_index widths a.target) t.1) (freed_typed a.target (changes_where k act) (changes_typed act t.2))

    pub site_typed : (guard : Option Proposition) (act : List Assignment) → SiteTyped widths guard → AssignmentsTyped widths act → SiteTyped widths (step_where k guard act)
    site_typed guard act g t = after_typed guard (changes_where k act) g (changes_typed act t)

  moving_typed : (act : List Assignment) → AssignmentsTyped widths act → AssignmentsTyped widths (moving act)
  moving_typed [] t = tt
  moving_typed (a ∷ act) t = by (moves a) (moving_typed act t.2)
    where
      by : (b : Bool) → AssignmentsTyped widths (moving act) → AssignmentsTyped widths (cond b (a ∷ moving act) (moving act))
      by true rest = (t.0, t.1, rest)
      by false rest = rest

  -- the steps of a typed statement are typed
  abbrev pub StepsTyped : List StepTree → Type 0
  StepsTyped [] = Unit {0}
  StepsTyped (s ∷ ss) = SiteTyped widths s.guard × AssignmentsTyped widths s.act × StepsTyped ss

  pub then_typed : (ss ts : List StepTree) → StepsTyped ss → StepsTyped ts → StepsTyped (ss ++ ts)
  then_typed [] ts h k = k
  then_typed (s ∷ ss) ts h k = (h.0, h.1, then_typed ss ts h.2 k)

module _ (words : List Word) where
  mutual
    pub steps_typed : (s : Statement) → IsTypedStatement words s → StepsTyped (widths_of words) (steps s)
    steps_typed (skip row) t = (tt, tt, tt)
    steps_typed (assign row a) t = (tt, moving_typed (widths_of words) (a ∷ []) t.0, tt)
    steps_typed (await row b act) t = (t.0.0, moving_typed (widths_of words) act t.1.0, tt)
    steps_typed (sequence row s items) t = then_typed (widths_of words) (steps s) (steps_of_items items) (steps_typed s t.0) (items_typed items t.1)
    steps_typed (branch row b s u) t = (t.0.0, tt, then_typed (widths_of words) (steps s) (steps u) (steps_typed s t.1) (steps_typed u t.2))
    steps_typed (loop row b s) t = (t.0.0, tt, steps_typed s t.1)

    items_typed : (items : Items) → AreTypedItems words items → StepsTyped (widths_of words) (steps_of_items items)
    items_typed (one s) t = steps_typed s t
    items_typed (more s items) t = then_typed (widths_of words) (steps s) (steps_of_items items) (steps_typed s t.0) (items_typed items t.1)

-- a step among typed ones is typed
pub typed_at : (widths : List ℕ) (ss : List StepTree) (k : ℕ) (s : StepTree) → StepsTyped widths ss → slice_get ss k ≡ Some s → SiteTyped widths s.guard × AssignmentsTyped widths s.act
typed_at widths [] k s t h = cc h
typed_at widths (r ∷ ss) zero s t h = let same : r ≡ s = cc h in subst (λ (x : StepTree). SiteTyped widths x.guard × AssignmentsTyped widths x.act) same (t.0, t.1)
typed_at widths (r ∷ ss) (suc k) s t h = typed_at widths ss k s t.2 h

pub body_typed : (words : List Word) (ps : List PartTree) (i : ℕ) (p : PartTree) → AreTypedParts words ps → slice_get ps i ≡ Some p → IsTypedStatement words p.body
body_typed words [] i p t h = cc h
body_typed words (q ∷ ps) zero p t h = let same : q ≡ p = cc h in subst (λ (x : PartTree). IsTypedStatement words x.body) same t.1
body_typed words (q ∷ ps) (suc i) p t h = body_typed words ps i p t.2 h
