-- One turn of the loops over instances and words.
use Rattle.std.proofs.Common.{◌≡◌, ℕ, ◌+◌, ◌<◌, ℤ, subst, false, List, [], ◌∷◌, ◌++◌, map, take, length, slice_index_or}
use Rattle.std.proofs.lemmas.List.{take_more, append-nil}
use Rattle.rg_words.specs.Layout.{Word}
use Rattle.rg_outline_syntax.specs.declared.written.Binder.{Binder}
use Rattle.rg_outline_syntax.specs.declared.span.Span.{Span}
use Rattle.rg_outline_syntax.specs.declared.written.List as written
use Rattle.rg_outline_syntax.specs.declared.written.ExpressionKind.TheVariants.{Name}
use Rattle.rg_outline_meaning.specs.Meanings.{Meaning, whole}
use Rattle.rg_outline_meaning.specs.Names.{Outline, Names, HasKind, listed, with_number}
use Rattle.rg_outline_meaning.specs.Expressions.{StandsFor, AllStandFor, InstancesStandFor, IsInstance, WordsStandFor, no_words, words_and_more}
use Rattle.rg_outline_meaning.specs.Inner.{AreWordsOf}
use Rattle.rg_outline_meaning.proofs.Rows.{instances_and_one, words_and_words}

module _ (o : Outline) (words : List Word) (names : Names) where
  -- the instances of the numbers up to one, and that of this one
  pub next_instance : (b : Binder) (index : List ℕ) (body : ℕ) (zs : List ℤ) (k : ℕ) (d z : ℤ) (ms : List Meaning) (m : Meaning) → z ≡ slice_index_or zs k d → k < length zs → InstancesStandFor o words names b index body (take k zs) ms → StandsFor o words (with_number names index z) body m → IsInstance b m → InstancesStandFor o words names b index body (take (k + 1) zs) (ms ++ m ∷ [])
  next_instance b index body zs k d z ms m at low so stands is = rw (take_more zs k d low, ← at) (instances_and_one o words names b index body (take k zs) ms z m so stands is)

  -- the words of the names up to one, and those of this one
  pub next_words : (is : List ℕ) (k d i : ℕ) (old own new : List ℕ) → i ≡ slice_index_or is k d → k < length is → WordsStandFor o words names (take k is) old → WordsStandFor o words names (i ∷ []) own → new ≡ old ++ own → WordsStandFor o words names (take (k + 1) is) new
  next_words is k d i old own new at low so one more = rw (take_more is k d low, ← at, more) (words_and_words o words names (take k is) (i ∷ []) old own so one)

  -- the words of one name
  pub words_of_name : (i : ℕ) (name : Span) (l : written.List) (zs : List ℤ) (ks : List ℕ) → HasKind o i (Name name l false false) → AllStandFor o words names (listed o l) (map (λ z. whole z) zs) → AreWordsOf o words names name zs ks → WordsStandFor o words names (i ∷ []) ks
  words_of_name i name l zs ks made all are =
      subst (λ ls. WordsStandFor o words names (i ∷ []) ls) (append-nil ks) (words_and_more names i [] name l are.0 zs ks [] made are.1 all are.2 are.3 (no_words names))
