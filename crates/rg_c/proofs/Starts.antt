-- The start that a pre gives.
use Rattle.std.proofs.Common.{◌≡◌, ℕ, suc, ◌+◌, ◌-◌, ◌<◌, ◌^◌, Bool, true, false, nat_eq, List, [], ◌∷◌, ◌++◌, length, map, Option, Some, None, refl, ap, sym, subst, ◌∙◌, arith, append_assoc}
use Rattle.std.specs.Prelude.{slice_index, slice_set, replicate, if◌then◌else◌, IfSome}
use Rattle.std.specs.List.{range_with_len}
use Rattle.std.specs.Option.{option_or, option_map_or}
use Rattle.std.proofs.lemmas.Nat.{pow_pos}
use Rattle.std.proofs.lemmas.Bool.{eqb-true}
use Rattle.std.proofs.Math.Seq.{set-append_seam}
use Rattle.std.proofs.lemmas.List.FromFn.{length-map-range_with_len, map-range_with_len_more}
use Rattle.rg_words.specs.declared.operators.Connective.TheVariants.{And}
use Rattle.rg_words.specs.declared.operators.Comparison.TheVariants.{Equal}
use Rattle.rg_words.specs.Layout.{Word, widths_of}
use Rattle.rg_words.specs.States.{AreValues}
use Rattle.rg_tree.specs.Trees.{Proposition, number, word, connected, compared}
use Rattle.rg_tree.specs.Typing.{IsTyped}
use Rattle.rg_tree.specs.Traces.{holds_at}
use Rattle.rg_c.specs.Starts.{given, given_value, given_values, StartsAreInside}

-- a value that may be given is within w bits
abbrev Within : ℕ → Option ℕ → Type 0
Within w o = option_map_or (λ n. n) o 0 < 2 ^ w

or_within : (w : ℕ) (o p : Option ℕ) → Within w o → Within w p → Within w (option_or o p)
or_within w None p h i = i
or_within w (Some n) p h i = h

if_within : (widths : List ℕ) (k j w n : ℕ) (b : Bool) → nat_eq k j ≡ b → slice_index widths j ≡ w → n < 2 ^ w → Within (slice_index widths k) (if b then Some n else None)
if_within widths k j w n false e f h = pow_pos (slice_index widths k)
if_within widths k j w n true e f h = let same : k ≡ j = eqb-true _ _ e in rw (same, f) h

option_within : (widths : List ℕ) (k : ℕ) (f : Proposition) → IsTyped widths f → Within (slice_index widths k) (given k f)
option_within widths k (connected And f g) h = or_within (slice_index widths k) (given k f) (given k g) (option_within widths k f h.0) (option_within widths k g h.1)
option_within widths k (compared Equal (word j) (number w n)) h = if_within widths k j h.0 n (nat_eq k j) refl h.1.1 h.2.1
option_within widths k (compared Equal (number w n) (word j)) h = if_within widths k j h.0 n (nat_eq k j) refl h.2.1 h.1.1
option_within widths k f h = pow_pos (slice_index widths k)

-- what a typed formula gives a word is within its width
pub given_within : (widths : List ℕ) (k : ℕ) (f : Proposition) → IsTyped widths f → given_value f k < 2 ^ slice_index widths k
given_within widths k f h = option_within widths k f h

-- one value more is set
pub one_set : (f : ℕ → ℕ) (i n : ℕ) (vs : List ℕ) (x : ℕ) → i < n → vs ≡ map f (range_with_len 0 i) ++ replicate (n - i) 0 → x ≡ f i → slice_set vs i x ≡ map f (range_with_len 0 (i + 1)) ++ replicate (n - (i + 1)) 0
one_set f i n vs x less so_far is =
    let xs = map f (range_with_len 0 i) in
    let ys = replicate (n - (i + 1)) 0 in
    let size : n - i ≡ suc (n - (i + 1)) = omega (arith, less) in
    let count : length xs ≡ i = length-map-range_with_len f 0 i in
    let seam : slice_set (xs ++ 0 ∷ ys) (length xs) x ≡ xs ++ x ∷ ys = set-append_seam xs 0 ys x in
    ap (λ u. slice_set u i x) (so_far ∙ ap (λ m. xs ++ replicate m 0) size)
    ∙ ap (λ j. slice_set (xs ++ 0 ∷ ys) j x) (sym count)
    ∙ seam
    ∙ ap (λ y. xs ++ y ∷ ys) is
    ∙ sym (append_assoc xs (f i ∷ []) ys)
    ∙ ap (λ u. u ++ ys) (sym (map-range_with_len_more f 0 i i (omega arith)))

-- values within the words' widths are a state
are_values : (words : List Word) (a : ℕ) (f : ℕ → ℕ) → ((i : ℕ) → i < length words → f (a + i) < 2 ^ slice_index (widths_of words) i) → AreValues (widths_of words) (map f (range_with_len a (length words)))
are_values [] a f h = tt
are_values (w ∷ words) a f h =
    (subst (λ j. f j < 2 ^ w.width) here (h 0 (omega arith)), are_values words (a + 1) f (λ i less. subst (λ j. f j < 2 ^ slice_index (widths_of words) i) (after i) (h (suc i) (omega (arith, less)))))
  where
    here : a + 0 ≡ a
    here = omega arith

    after : (i : ℕ) → a + suc i ≡ a + 1 + i
    after i = omega arith

pub starts_are_inside : StartsAreInside
starts_are_inside p layout typed = by (holds_at p.spec.pre (given_values p.words p.spec.pre)) refl
  where
    from_zero : (i : ℕ) → i ≡ 0 + i
    from_zero i = omega arith

    by : (b : Bool) → holds_at p.spec.pre (given_values p.words p.spec.pre) ≡ b → IfSome (if b then Some (given_values p.words p.spec.pre) else None) (λ s. AreValues (widths_of p.words) s × (holds_at p.spec.pre s ≡ true))
    by false e = tt
    by true e = (are_values p.words 0 (given_value p.spec.pre) (λ i less. subst (λ j. given_value p.spec.pre j < 2 ^ slice_index (widths_of p.words) i) (from_zero i) (given_within (widths_of p.words) i p.spec.pre typed.spec.0.0)), e)
