-- What indices stand for, one by one.
use Rattle.std.proofs.Common.{◌≡◌, ℕ, ◌+◌, ◌<◌, ℤ, sym, ◌∙◌, ap, List, [], ◌∷◌, ◌++◌, map, take, length, slice_index_or, slice_set, Option, Some, None, arith}
use Rattle.std.proofs.lemmas.List.{map-append, length-append, length-map, length-set, set-append_left}
use Rattle.std.proofs.Math.Seq.{set-append_seam}
use Rattle.rg_tree.specs.Trees.{Expression}
use Rattle.rg_outline_meaning.specs.Meanings.{Meaning, whole, value}
use Rattle.rg_outline_meaning.specs.Inner.{AreIndices}
use Rattle.rg_outline_meaning.proofs.Placed.{take_next}

abbrev wholes : List ℤ → List Meaning
wholes zs = map (λ z. whole z) zs

-- one more, which is a number
whole_and_one : (ms : List Meaning) (zs : List ℤ) (c : Option (ℕ × Expression)) (z : ℤ) → AreIndices ms zs c → AreIndices (ms ++ whole z ∷ []) (zs ++ z ∷ []) c
whole_and_one ms zs None z are = ap (λ xs. xs ++ whole z ∷ []) are ∙ sym (map-append (λ y. whole y) zs (z ∷ []))
whole_and_one ms zs (Some c) z are =
    let low : c.0 < length (wholes zs) = rw length-map are.0 in (
      omega (arith, length-append zs (z ∷ []), are.0),
      ap (λ xs. xs ++ whole z ∷ []) are.1 ∙ sym (set-append_left (wholes zs) (whole z ∷ []) c.0 (value c.1) low) ∙ ap (λ xs. slice_set xs c.0 (value c.1)) (sym (map-append (λ y. whole y) zs (z ∷ []))),
    )

-- one more, which is the value over words
value_and_one : (ms : List Meaning) (zs : List ℤ) (place : ℕ) (e : Expression) (z : ℤ) → length zs ≡ place → AreIndices ms zs None → AreIndices (ms ++ value e ∷ []) (zs ++ z ∷ []) (Some (place, e))
value_and_one ms zs place e z long are =
    let there : length (wholes zs) ≡ place = length-map zs (λ y. whole y) ∙ long in (
      omega (arith, length-append zs (z ∷ []), long),
      ap (λ xs. xs ++ value e ∷ []) are ∙ sym (set-append_seam (wholes zs) (whole z) [] (value e)) ∙ ap (λ k. slice_set (wholes zs ++ whole z ∷ []) k (value e)) there ∙ ap (λ xs. slice_set xs place (value e)) (sym (map-append (λ y. whole y) zs (z ∷ []))),
    )

module _ {X : Type 0} (f : X → Meaning) (xs : List X) (k : ℕ) (x : X) (at : x ≡ slice_index_or xs k x) (low : k < length xs) (zs new : List ℤ) (z : ℤ) (pushed : new ≡ zs ++ z ∷ []) (long : length zs ≡ k) where
  same_view : map f (take (k + 1) xs) ≡ map f (take k xs) ++ f x ∷ []
  same_view = ap (λ ys. map f ys) (take_next xs k x at low) ∙ map-append f (take k xs) (x ∷ [])

  pub longer_by_one : length new ≡ k + 1
  longer_by_one = ap length pushed ∙ length-append zs (z ∷ []) ∙ ap (λ n. n + 1) long

  pub whole_next : (c : Option (ℕ × Expression)) → f x ≡ whole z → AreIndices (map f (take k xs)) zs c → AreIndices (map f (take (k + 1) xs)) new c
  whole_next c is are = rw (same_view, is, pushed) (whole_and_one (map f (take k xs)) zs c z are)

  pub value_next : (e : Expression) → f x ≡ value e → AreIndices (map f (take k xs)) zs None → AreIndices (map f (take (k + 1) xs)) new (Some (k, e))
  value_next e is are = rw (same_view, is, pushed) (value_and_one (map f (take k xs)) zs k e z long are)

-- as many indices as there are meanings
pub as_many : (ms : List Meaning) (zs : List ℤ) (c : Option (ℕ × Expression)) → AreIndices ms zs c → length zs ≡ length ms
as_many ms zs None are = sym (ap length are ∙ length-map zs (λ z. whole z))
as_many ms zs (Some c) are = sym (ap length are.1 ∙ length-set (wholes zs) c.0 (value c.1) ∙ length-map zs (λ z. whole z))
