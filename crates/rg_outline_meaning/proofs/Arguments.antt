-- Arguments under the names of their parameters, one by one and all at once.
use Rattle.std.proofs.Common.{◌≡◌, ℕ, ◌+◌, ◌<◌, ◌≤◌, refl, sym, ◌∙◌, ap, subst, List, [], ◌∷◌, ◌++◌, map, take, length, slice_index_or, arith}
use Rattle.std.proofs.lemmas.List.{map-append, take_more, take_all, length-map}
use Rattle.rg_words.specs.Layout.{Word}
use Rattle.rg_outline_syntax.specs.declared.span.Span.{Span}
use Rattle.rg_outline_meaning.specs.Meanings.{Meaning}
use Rattle.rg_outline_meaning.specs.Names.{Outline, Names, text_of, bound_to}
use Rattle.rg_outline_meaning.specs.Expressions.{StandsFor, AllStandFor}
use Rattle.rg_outline_meaning.specs.Inner.{AreArguments}
use Rattle.rg_outline_meaning.specs.View.{meaning, bound}
use Rattle.rg_outline_meaning.specs.declared.names.Bound.{Bound}
use Rattle.rg_outline_meaning.proofs.Rows.{all_and_one}

bound_each : (o : Outline) (bs : List Bound) → map (bound o) bs ≡ bound_to (map (text_of o) (map (λ b. b.name) bs)) (map (λ b. meaning b.meaning) bs)
bound_each o [] = refl
bound_each o (b ∷ bs) = ap (λ rest. bound o b ∷ rest) (bound_each o bs)

module _ (o : Outline) (words : List Word) (names : Names) (is : List ℕ) where
  -- those so far, and one more
  pub next_meaning : {X : Type 0} (f : X → Meaning) (k d i : ℕ) (old new : List X) (x : X) → i ≡ slice_index_or is k d → k < length is → AllStandFor o words names (take k is) (map f old) → StandsFor o words names i (f x) → new ≡ old ++ x ∷ [] → AllStandFor o words names (take (k + 1) is) (map f new)
  next_meaning f k d i old new x at low all one pushed =
      rw (take_more is k d low, ← at, pushed, map-append f old (x ∷ [])) (all_and_one o words names (take k is) (map f old) i (f x) all one)

  -- all of them
  pub all_meanings : (k : ℕ) (ms : List Meaning) → length is ≤ k → AllStandFor o words names (take k is) ms → AllStandFor o words names is ms
  all_meanings k ms far all = subst (λ js. AllStandFor o words names js ms) (take_all k is far) all

  pub all_arguments : (listed : List ℕ) (ps : List Span) (bs : List Bound) (k : ℕ) → is ≡ listed → length is ≡ length ps → length is ≤ k → map (λ b. b.name) bs ≡ take k ps → AllStandFor o words names (take k is) (map (λ b. meaning b.meaning) bs) → AreArguments o words names listed (map (text_of o) ps) (map (bound o) bs)
  all_arguments listed ps bs k same long far named all =
      let these : map (λ b. b.name) bs ≡ ps = named ∙ take_all k ps (omega arith) in
      let many : length bs ≡ length ps = sym (length-map bs (λ b. b.name)) ∙ ap length these in (
        map (λ b. meaning b.meaning) bs,
        subst (λ js. AllStandFor o words names js (map (λ b. meaning b.meaning) bs)) same (all_meanings k (map (λ b. meaning b.meaning) bs) far all),
        length-map bs (λ b. meaning b.meaning) ∙ many ∙ sym (length-map ps (text_of o)),
        bound_each o bs ∙ ap (λ ns. bound_to (map (text_of o) ns) (map (λ b. meaning b.meaning) bs)) these,
      )
