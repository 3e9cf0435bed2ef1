-- Indices of which one reads words, cut around that one.
use Rattle.std.proofs.Common.{◌≡◌, ℕ, zero, suc, ◌-◌, ◌<◌, min, ℤ, sym, ◌∙◌, ap, subst, List, [], ◌∷◌, ◌++◌, map, take, drop, length, filter, slice_get, slice_set, Some, arith}
use Rattle.std.proofs.lemmas.List.{length-map, length-take, length-drop, take-map, drop-map, set_split}
use Rattle.std.proofs.lemmas.Option.{slice_get_within, get_or_from_slice_get}
use Rattle.std.proofs.Math.Seq.{split_at}
use Rattle.rg_words.specs.Layout.{Word, widths_of}
use Rattle.rg_tree.specs.Trees.{Expression}
use Rattle.rg_outline_syntax.specs.declared.span.Span.{Span}
use Rattle.rg_outline_syntax.specs.declared.written.List as written
use Rattle.rg_outline_meaning.specs.Meanings.{Meaning, whole, value}
use Rattle.rg_outline_meaning.specs.Names.{Outline, text_of, listed, family, Names, Knows}
use Rattle.rg_outline_meaning.specs.Members.{numbers, AreWithin, IsMember, first_word, fits, Candidate, AreCandidates}
use Rattle.rg_outline_meaning.specs.Expressions as rule
use Rattle.rg_outline_meaning.specs.Expressions.{AllStandFor, Selects, among}
use Rattle.rg_outline_meaning.specs.Inner.{AreCandidatesAt}

abbrev wholes : List ℤ → List Meaning
wholes zs = map (λ z. whole z) zs

within_before : (n : ℕ) (rs : List (ℤ × ℤ)) (zs : List ℤ) → AreWithin rs zs → AreWithin (take n rs) (take n zs)
within_before zero rs zs are = tt
within_before (suc n) rs [] are = tt
within_before (suc n) [] (z ∷ zs) are = absurd are
within_before (suc n) (r ∷ rs) (z ∷ zs) (low, high, rest) = (low, high, within_before n rs zs rest)

within_after : (n : ℕ) (rs : List (ℤ × ℤ)) (zs : List ℤ) → AreWithin rs zs → AreWithin (drop n rs) (drop n zs)
within_after zero rs zs are = are
within_after (suc n) rs [] are = tt
within_after (suc n) [] (z ∷ zs) are = absurd are
within_after (suc n) (r ∷ rs) (z ∷ zs) (low, high, rest) = within_after n rs zs rest

candidates_cut : (words : List Word) (name : List ℕ) (zs : List ℤ) (place : ℕ) (ns : List ℤ) (cs : List Candidate) → place < length zs → AreCandidatesAt words name zs place ns cs → AreCandidates words name (take place zs) (drop (suc place) zs) ns cs
candidates_cut words name zs place [] [] low are = tt
candidates_cut words name zs place (z ∷ ns) (c ∷ cs) low (number, own, rest) = (number, subst (λ is. IsMember words name is c.word) (set_split zs place z low) own, candidates_cut words name zs place ns cs low rest)
candidates_cut words name zs place [] (c ∷ cs) low are = absurd are
candidates_cut words name zs place (z ∷ ns) [] low are = absurd are

-- the meanings of the indices, cut around the value over words
cut_meanings : (zs : List ℤ) (place : ℕ) (e : Expression) → place < length zs → slice_set (wholes zs) place (value e) ≡ wholes (take place zs) ++ value e ∷ wholes (drop (suc place) zs)
cut_meanings zs place e low =
    let there : place < length (wholes zs) = subst (λ n. place < n) (sym (length-map zs (λ z. whole z))) low in
    set_split (wholes zs) place (value e) there ∙ ap (λ (xs : List Meaning). xs ++ value e ∷ drop (suc place) (wholes zs)) (take-map (λ z. whole z) place zs)
    ∙ ap (λ (xs : List Meaning). wholes (take place zs) ++ value e ∷ xs) (drop-map (λ z. whole z) (suc place) zs)

module _ (o : Outline) (words : List Word) where
  pub several_at : (names : Names) (place v : ℕ) (name : Span) (l : written.List) (ranges : List (ℤ × ℤ)) (zs : List ℤ) (e : Expression) (range : ℤ × ℤ) (width : ℕ) (c : Candidate) (cs : List Candidate)
      → Knows o names name (family ranges)
      → AllStandFor o words names (listed o l) (slice_set (wholes zs) place (value e))
      → length zs ≡ length ranges
      → AreWithin ranges zs
      → slice_get ranges place ≡ Some range
      → first_word e ≡ Some v
      → slice_get (widths_of words) v ≡ Some width
      → AreCandidatesAt words (text_of o name) zs place (filter (fits width) (numbers range.0 range.1)) (c ∷ cs)
      → Selects o words names name l (among e c cs)
  several_at names place v name l ranges zs e range width c cs knows all count within at first wide candidates =
      let inside : place < length ranges = slice_get_within ranges place range at in
      let low : place < length zs = omega (arith, count, inside) in
      let cut : ranges ≡ take place ranges ++ range ∷ drop (suc place) ranges = split_at ranges place range inside ∙ ap (λ r. take place ranges ++ r ∷ drop (suc place) ranges) (get_or_from_slice_get ranges place range range at) in
      let before : length (take place zs) ≡ length (take place ranges) = length-take place zs ∙ ap (λ n. min place n) count ∙ sym (length-take place ranges) in
      let after : length (drop (suc place) zs) ≡ length (drop (suc place) ranges) = length-drop (suc place) zs ∙ ap (λ n. n - suc place) count ∙ sym (length-drop (suc place) ranges) in
      rule.several names v name l (take place ranges) (drop (suc place) ranges) range (take place zs) (drop (suc place) zs) e width c cs
      (subst (λ rs. Knows o names name (family rs)) cut knows)
      (subst (λ ms. AllStandFor o words names (listed o l) ms) (cut_meanings zs place e low) all)
      before after (within_before place ranges zs within) (within_after (suc place) ranges zs within) first wide (candidates_cut words (text_of o name) zs place (filter (fits width) (numbers range.0 range.1)) (c ∷ cs) low candidates)
