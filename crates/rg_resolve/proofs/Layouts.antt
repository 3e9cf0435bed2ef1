-- Declarations whose words are those of a layout have no faults.
use Rattle.std.proofs.Common.{◌≡◌, ◌≢◌, ℕ, ◌<◌, true, ◌&&◌, List, [], ◌∷◌, ◌++◌, length, get_or, refl, sym, ap, subst, ◌∙◌, arith, append_assoc, length-append, inl, inr}
use Rattle.std.specs.Prelude.{Option, Some, None, is_none, nat_le, All, ◌⊎◌}
use Rattle.std.specs.List.{AllPairs}
use Rattle.std.specs.Str.{bytes_eq}
use Rattle.std.proofs.lemmas.Bool.{and_from, le-leb}
use Rattle.std.proofs.lemmas.List.{get_or_append_left}
use Rattle.std.proofs.Math.Seq.{get_or-append_seam}
use Rattle.std.proofs.lemmas.List.Elements.{All-tail}
use Rattle.std.proofs.lemmas.List.Quantifiers.{position-Some}
use Rattle.std.proofs.lemmas.Slice.Eq.{bytes_eq-Decides}
use Rattle.rg_words.specs.declared.limits.TheConstants.{MOST_WIDTH}
use Rattle.rg_words.specs.declared.refusal.Refusal.{Refusal}
use Rattle.rg_words.specs.declared.refusal.SourceFile.{SourceFile}
use Rattle.rg_words.specs.declared.refusal.RefusalNumber.TheVariants.{NameTwice, Width as WidthRange}
use Rattle.rg_words.specs.Refusals.{no_memory}
use Rattle.rg_words.specs.Layout.{Word, IsLayout, IsWidth, index_of}
use Rattle.rg_syntax.specs.Written.{DeclaredWord}
use Rattle.rg_resolve.specs.Faults.{number_of, IsRefusal}
use Rattle.rg_resolve.specs.Words.{word_of, words_of, faults_after, declaration_faults}
use Rattle.rg_leaves.proofs.Refusals.{no_faults, no_test}

-- no two words of one name
abbrev AreDistinct : List Word → Type 0
AreDistinct words = AllPairs (λ v w. v.name ≢ w.name) words

new_name : (before after : List Word) (w : Word) → AreDistinct (before ++ w ∷ after) → index_of before w.name ≡ None
new_name before after w distinct = by before (index_of before w.name) refl distinct
  where
    by : (words : List Word) (found : Option ℕ) → index_of words w.name ≡ found → AreDistinct (words ++ w ∷ after) → found ≡ None
    by words None e distinct = refl
    by [] (Some k) e distinct = cc
    by (v ∷ vs) (Some k) e distinct =
        let found = position-Some (λ u. bytes_eq w.name u.name) (v ∷ vs) k w e in
        let same : w.name ≡ (get_or (v ∷ vs) k w).name = (bytes_eq-Decides w.name _).0 found.1 in
        let there : length (v ∷ vs) < length ((v ∷ vs) ++ w ∷ after) = omega (arith, length-append (v ∷ vs) (w ∷ after)) in
        let left = get_or_append_left (v ∷ vs) (w ∷ after) w k found.0 in
        let seam = get_or-append_seam (v ∷ vs) w after w in
        absurd (distinct k (length (v ∷ vs)) w found.0 there (ap (λ (u : Word). u.name) left ∙ sym same ∙ sym (ap (λ (u : Word). u.name) seam)))

none_is : (found : Option ℕ) → found ≡ None → is_none found ≡ true
none_is found e = ap is_none e

after_faultless : (before : List Word) (ds : List DeclaredWord) → AreDistinct (before ++ words_of ds) → All (λ w. IsWidth w.width) (words_of ds) → faults_after before ds ≡ []
unfolding faults_after
after_faultless before [] distinct widths = refl
after_faultless before (d ∷ ds) distinct widths =
    let new = none_is _ (new_name before (words_of ds) (word_of d) distinct) in
    let range = widths 0 (word_of d) (omega arith) in
    let name = no_test (is_none (index_of before d.name.text)) NameTwice d.name.line new in
    let width = no_test (nat_le 1 (number_of d.width.text) && nat_le (number_of d.width.text) MOST_WIDTH) WidthRange d.width.line (and_from _ _ (le-leb _ _ range.0) (le-leb _ _ range.1)) in
    let P : List Word → Type 0 = λ words. AreDistinct words in
    let rest = subst P (sym (append_assoc before (word_of d ∷ []) (words_of ds))) distinct in
    no_faults _ _ (no_faults _ _ name width) (after_faultless (before ++ word_of d ∷ []) ds rest (All-tail (λ w. IsWidth w.width) (word_of d) (words_of ds) widths))

pub layout_faultless : (ds : List DeclaredWord) → IsLayout (words_of ds) → declaration_faults ds ≡ []
layout_faultless ds layout = after_faultless [] ds layout.distinct layout.widths

-- a refusal that isn't want of memory reports that the words are of no layout
pub refused_of_no_layout : (ds : List DeclaredWord) (file : SourceFile) (refusal : Refusal) → IsRefusal file (declaration_faults ds) refusal → (refusal ≡ no_memory) ⊎ (IsLayout (words_of ds) → ⊥)
refused_of_no_layout ds file refusal h = elim h.cause [ inl e ↦ inl e | inr e ↦ inr (λ layout. rw (layout_faultless ds layout) at e) ]
