-- Words with their values, one after another.
use Rattle.std.proofs.Common.{◌≡◌, ◌∙◌, ℕ, zero, suc, ◌<◌, List, [], ◌∷◌, ◌++◌, length, take, min, Result, Ok, Err, OnOk, is_ok, if◌then◌else◌, ap, sym, refl, append_assoc, append-nil, arith}
use Rattle.std.specs.Prelude.{slice_index, slice_index_or}
use Rattle.rg_words.specs.Layout.{Word, names_of}
use Rattle.rgc.specs.Failures.{value_text, values_text}

-- the first words, and the next
pub one_more : (i : ℕ) (words : List Word) (values : List ℕ) → i < length words → i < length values → values_text (take (suc i) (names_of words)) (take (suc i) values) ≡ values_text (take i (names_of words)) (take i values) ++ value_text (slice_index_or (names_of words) i []) (slice_index values i)
one_more i [] values less least = absurd (omega (arith, less))
one_more i (word ∷ words) [] less least = absurd (omega (arith, least))
one_more zero (word ∷ words) (value ∷ values) less least = append-nil (value_text word.name value)
one_more (suc i) (word ∷ words) (value ∷ values) less least =
    ap (λ l. value_text word.name value ++ l) (one_more i words values (omega (arith, less)) (omega (arith, least)))
    ∙ sym (append_assoc (value_text word.name value) (values_text (take i (names_of words)) (take i values)) (value_text (slice_index_or (names_of words) i []) (slice_index values i)))

-- as many as there are words and values are all
pub all_taken : (n : ℕ) (words : List Word) (values : List ℕ) → n ≡ min (length words) (length values) → values_text (take n (names_of words)) (take n values) ≡ values_text (names_of words) values
all_taken zero [] values is = refl
all_taken (suc n) [] values is = refl
all_taken zero (word ∷ words) [] is = refl
all_taken (suc n) (word ∷ words) [] is = refl
all_taken zero (word ∷ words) (value ∷ values) is = absurd (omega (arith, is))
all_taken (suc n) (word ∷ words) (value ∷ values) is = ap (λ l. value_text word.name value ++ l) (all_taken n words values (omega (arith, is)))

-- what was pushed, where it was
pub whole_pushed : {T E : Type 0} (r : Result T E) (new pushed old text : List ℕ) → new ≡ (if is_ok r then pushed else old) → pushed ≡ text → OnOk r (new ≡ text)
whole_pushed (Ok t) new pushed old text is same = is ∙ same
whole_pushed (Err e) new pushed old text is same = tt
