-- Words with their values, one after another.
use Rattle.std.proofs.Common.{◌≡◌, ℕ, zero, suc, ◌<◌, List, [], ◌∷◌, length, take, min, refl, arith}
use Rattle.std.specs.Prelude.{slice_index, slice_index_or}
use Rattle.serde_json.specs.Data.{Members, put, number, unsigned}
use Rattle.rg_words.specs.Layout.{Word, names_of}
use Rattle.rgc_answers.specs.States.{with_values}

-- the first words, and the next
pub one_more : (i : ℕ) (words : List Word) (values : List ℕ) (ms : Members) → i < length words → i < length values
    → with_values (take (suc i) (names_of words)) (take (suc i) values) ms ≡ put (slice_index_or (names_of words) i []) (number (unsigned (slice_index values i))) (with_values (take i (names_of words)) (take i values) ms)
one_more i [] values ms less least = absurd (omega (arith, less))
one_more i (word ∷ words) [] ms less least = absurd (omega (arith, least))
one_more zero (word ∷ words) (value ∷ values) ms less least = refl
one_more (suc i) (word ∷ words) (value ∷ values) ms less least = one_more i words values (put word.name (number (unsigned value)) ms) (omega (arith, less)) (omega (arith, least))

-- as many as there are words and values are all
pub all_taken : (n : ℕ) (words : List Word) (values : List ℕ) (ms : Members) → n ≡ min (length words) (length values) → with_values (take n (names_of words)) (take n values) ms ≡ with_values (names_of words) values ms
all_taken zero [] values ms is = refl
all_taken (suc n) [] values ms is = refl
all_taken zero (word ∷ words) [] ms is = refl
all_taken (suc n) (word ∷ words) [] ms is = refl
all_taken zero (word ∷ words) (value ∷ values) ms is = absurd (omega (arith, is))
all_taken (suc n) (word ∷ words) (value ∷ values) ms is = all_taken n words values (put word.name (number (unsigned value)) ms) (omega (arith, is))
