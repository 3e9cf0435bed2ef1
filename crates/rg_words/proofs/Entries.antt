-- The entries of a layout's map, and its words.
use Rattle.std.proofs.Common.{◌≡◌, ℕ, Bool, false, not, List, [], ◌∷◌, ◌++◌, map, Option, Some, None, refl, sym, ap, ◌∙◌}
use Rattle.std.specs.Prelude.{is_some, position, String, string_bytes, slice_get}
use Rattle.std.specs.Global.{Global}
use Rattle.std.specs.List.{prefix_len}
use Rattle.std.specs.Option.{option_map}
use Rattle.std.specs.Str.{bytes_eq}
use Rattle.std.proofs.lemmas.List.{map-append, length-map}
use Rattle.std.proofs.lemmas.Option.{slice_get-map}
use Rattle.std.specs.String.{string_eq}
use Rattle.indexmap.specs.IndexMap.{IndexMap, get, insert_entry}
use Rattle.indexmap.proofs.CallerLemmas.{insert_entry-new}
use Rattle.indexmap.proofs.MapLemmas.{some_index}
use Rattle.rg_words.specs.declared.layout.Declared.{Declared}
use Rattle.rg_words.specs.Layout.{Word, words_of_entries, index_of}

prefix_len-map : {A B : Type 0} (q : B → Bool) (f : A → B) → (xs : List A) → prefix_len q (map f xs) ≡ prefix_len (λ x. q (f x)) xs
prefix_len-map q f [] = refl
prefix_len-map q f (x ∷ xs) = rw (prefix_len-map q f xs) refl

position-map : {A B : Type 0} (p : B → Bool) (f : A → B) → (xs : List A) → position p (map f xs) ≡ position (λ x. p (f x)) xs
position-map p f xs = rw (prefix_len-map (λ y. not (p y)) f xs, length-map xs f) refl

-- the word of an entry
abbrev pub word_of : String Global × Declared → Word
word_of e = record { name = string_bytes e.0; width = e.1.width; fixed = e.1.fixed }

-- the place of a key is that of its word
pub index_same : (name : List ℕ) (es : List (String Global × Declared)) → position (λ k. bytes_eq name (string_bytes k)) (map (λ e. e.0) es) ≡ index_of (words_of_entries es) name
index_same name es =
    position-map (λ k. bytes_eq name (string_bytes k)) (λ e. e.0) es ∙ sym (position-map (λ w. bytes_eq name w.name) word_of es)

none_of : {A : Type 0} (o : Option A) → is_some o ≡ false → o ≡ None
none_of None h = refl
none_of (Some x) h = cc

-- a name that isn't declared is added at the end
module _ {S : Type 0} (m : IndexMap (String Global) Declared S) (k : String Global) (v : Declared) (absent : index_of (words_of_entries m.entries) (string_bytes k) ≡ None) where
  not_there : get string_eq m k ≡ None
  not_there = none_of _ (sym (some_index (string_eq k) m.entries) ∙ ap is_some (index_same (string_bytes k) m.entries) ∙ ap is_some absent)

  pub added : words_of_entries (insert_entry string_eq m.entries k v) ≡ words_of_entries m.entries ++ word_of (k, v) ∷ []
  added = ap words_of_entries (insert_entry-new string_eq m k v not_there) ∙ map-append word_of m.entries ((k, v) ∷ [])

-- the word at a place is that of the entry there
pub word_at : (es : List (String Global × Declared)) (i : ℕ) (e : String Global × Declared) → slice_get es i ≡ Some e → slice_get (words_of_entries es) i ≡ Some (word_of e)
word_at es i e h = slice_get-map word_of es i ∙ ap (λ o. option_map word_of o) h
