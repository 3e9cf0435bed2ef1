-- The step of typed assignments leads from a state to a state and keeps the fixed words.
use Rattle.std.proofs.Common.{◌≡◌, ℕ, zero, suc, ◌+◌, ◌%◌, ◌<◌, ◌^◌, Bool, true, false, List, [], ◌∷◌, length, map, get_or, Some, refl, subst, ◌∙◌, arith}
use Rattle.std.specs.Prelude.{slice_set, slice_index}
use Rattle.rg_words.specs.Layout.{Word, widths_of}
use Rattle.rg_words.specs.States.{AreValues, IsState, SameIf, AgreeOnFixed, IsPair}
use Rattle.rg_tree.specs.Trees.{Assignment}
use Rattle.rg_tree.specs.Meaning.{value_of}
use Rattle.rg_tree.specs.ConditionTrees.{assigned, AssignmentsTyped}
use Rattle.rg_tree.specs.TypedPrograms.{TargetsFree}
use Rattle.rg_tree.specs.Laws.{StepsArePairs}
use Rattle.rg_tree.proofs.Widths.{values_within}

-- the new value of a word of these widths
pub set_values : (ws : List ℕ) (s : List ℕ) (k x : ℕ) → AreValues ws s → k < length ws → x < 2 ^ slice_index ws k → AreValues ws (slice_set s k x)
set_values [] [] k x st less h = absurd (omega arith)
set_values (w ∷ ws) (y ∷ ys) zero x st less h = (h, st.1)
set_values (w ∷ ws) (y ∷ ys) (suc k) x st less h = (st.0, set_values ws ys k x st.1 (omega arith) h)
set_values [] (y ∷ ys) k x st less h = absurd st
set_values (w ∷ ws) [] k x st less h = absurd st

same_self : (f : Bool) (x : ℕ) → SameIf f x x
same_self true x = refl
same_self false x = tt

same_free : (f : Bool) (x y : ℕ) → f ≡ false → SameIf f x y
same_free true x y h = cc h
same_free false x y h = tt

same_trans : (f : Bool) (x y z : ℕ) → SameIf f x y → SameIf f y z → SameIf f x z
same_trans true x y z a b = a ∙ b
same_trans false x y z a b = tt

pub agree_self : (words : List Word) (s : List ℕ) → AgreeOnFixed words s s
unfolding AgreeOnFixed
agree_self [] s = tt
agree_self (w ∷ ws) [] = tt
agree_self (w ∷ ws) (x ∷ xs) = (same_self w.fixed x, agree_self ws xs)

pub agree_set : (words : List Word) (s : List ℕ) (k x : ℕ) → get_or (map (λ w. w.fixed) words) k false ≡ false → AgreeOnFixed words s (slice_set s k x)
unfolding AgreeOnFixed
agree_set [] s k x h = tt
agree_set (w ∷ ws) [] k x h = tt
agree_set (w ∷ ws) (y ∷ ys) zero x h = (same_free w.fixed y x h, agree_self ws ys)
agree_set (w ∷ ws) (y ∷ ys) (suc k) x h = (same_self w.fixed y, agree_set ws ys k x h)

pub agree_trans : (words : List Word) (s t u : List ℕ) → IsState words t → AgreeOnFixed words s t → AgreeOnFixed words t u → AgreeOnFixed words s u
unfolding AgreeOnFixed
agree_trans [] s t u st a b = tt
agree_trans (w ∷ ws) [] t u st a b = tt
agree_trans (w ∷ ws) (x ∷ xs) t [] st a b = tt
agree_trans (w ∷ ws) (x ∷ xs) [] (z ∷ zs) st a b = absurd st
agree_trans (w ∷ ws) (x ∷ xs) (y ∷ ys) (z ∷ zs) st a b = (same_trans w.fixed x y z a.0 b.0, agree_trans ws xs ys zs st.1 a.1 b.1)

assigned_pair : (words : List Word) (act : List Assignment) (s : List ℕ) → AssignmentsTyped (widths_of words) act → TargetsFree words act → IsState words s → IsPair words s (assigned act s)
assigned_pair words [] s typed free st = record { first = st; second = st; fixed = agree_self words s }
assigned_pair words (a ∷ act) s typed free st =
    let x = value_of a.value s s in
    let within = values_within (widths_of words) s s a.value (slice_index (widths_of words) a.target) typed.1 st st in
    let st' = set_values (widths_of words) s a.target x st typed.0 within in
    let rest = assigned_pair words act (slice_set s a.target x) typed.2 free.1 st' in
    record { first = st; second = rest.second; fixed = agree_trans words s (slice_set s a.target x) (assigned act (slice_set s a.target x)) st' (agree_set words s a.target x free.0) rest.fixed }

pub steps_are_pairs : StepsArePairs
steps_are_pairs words act s typed st = assigned_pair words act s typed.0 typed.1 st
