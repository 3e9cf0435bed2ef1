-- Widths within the limit.
use Rattle.std.proofs.Common.{◌≡◌, ℕ, ◌<◌, ◌≤◌, false, List, [], length, get_or, sym, arith}
use Rattle.std.proofs.lemmas.List.{length-map, get_or-map}
use Rattle.rg_words.specs.Layout.{Word, widths_of, IsLayout}
use Rattle.rg_tree.specs.Trees.{Expression, number, word, next_word, inverse, binary, shifted, choice}
use Rattle.rg_tree.specs.Typing.{HasWidth}

-- widths within the limit
abbrev pub AreWithin : List ℕ → Type 0
AreWithin widths = (k : ℕ) → k < length widths → get_or widths k 0 ≤ 64

pub are_within : (words : List Word) → IsLayout words → AreWithin (widths_of words)
are_within words h k lt =
    let none : Word = record { name = []; width = 0; fixed = false } in
    let below : k < length words = omega (arith, length-map words (λ w. w.width)) in
    rw (get_or-map (λ w. w.width) words k none 0 below) (h.widths k none below).1

-- along an equation of widths
pub limit_at : (v w : ℕ) → v ≡ w → w ≤ 64 → v ≤ 64
limit_at v w e h = omega arith

pub width_within : (widths : List ℕ) → AreWithin widths → (e : Expression) (w : ℕ) → HasWidth widths e w → w ≤ 64
width_within widths limit (number v n) w h = h.2
width_within widths limit (word k) w h = limit_at w _ (sym h.1) (limit k h.0)
width_within widths limit (next_word k) w h = limit_at w _ (sym h.1) (limit k h.0)
width_within widths limit (inverse v a) w h = width_within widths limit a w h.1
width_within widths limit (binary o v a b) w h = width_within widths limit a w h.1
width_within widths limit (shifted d v a k) w h = width_within widths limit a w h.1
width_within widths limit (choice f a b) w h = width_within widths limit a w h.1
