-- Words with their values before and after a step, one after another.
use Rattle.std.proofs.Common.{◌≡◌, ◌∙◌, ℕ, zero, suc, ◌+◌, ◌<◌, List, [], ◌∷◌, ◌++◌, length, take, min, ap, sym, refl, add-one, arith}
use Rattle.std.specs.Prelude.{slice_index, slice_index_or}
use Rattle.serde_json.specs.Data.{Data}
use Rattle.rg_words.specs.Layout.{Word, names_of}
use Rattle.rgc_answers.specs.Records.{word_data, words_data}

-- the first words, and the next
word_at : (i : ℕ) (words : List Word) (xs ys : List ℕ) → i < length words → i < length xs → i < length ys
    → words_data (take (suc i) (names_of words)) (take (suc i) xs) (take (suc i) ys) ≡ words_data (take i (names_of words)) (take i xs) (take i ys) ++ word_data (slice_index_or (names_of words) i []) (slice_index xs i) (slice_index ys i) ∷ []
word_at i [] xs ys less before after = absurd (omega (arith, less))
word_at i (word ∷ words) [] ys less before after = absurd (omega (arith, before))
word_at i (word ∷ words) (x ∷ xs) [] less before after = absurd (omega (arith, after))
word_at zero (word ∷ words) (x ∷ xs) (y ∷ ys) less before after = refl
word_at (suc i) (word ∷ words) (x ∷ xs) (y ∷ ys) less before after =
    ap (λ ds. word_data word.name x y ∷ ds) (word_at i words xs ys (omega (arith, less)) (omega (arith, before)) (omega (arith, after)))

pub word_pushed : (words : List Word) (i : ℕ) (xs ys : List ℕ) (ds : List Data) (d : Data) (name : List ℕ) (x y : ℕ) → i < length words → i < length xs → i < length ys
    → ds ≡ words_data (take i (names_of words)) (take i xs) (take i ys) → d ≡ word_data name x y → name ≡ slice_index_or (names_of words) i [] → x ≡ slice_index xs i → y ≡ slice_index ys i
    → ds ++ d ∷ [] ≡ words_data (take (i + 1) (names_of words)) (take (i + 1) xs) (take (i + 1) ys)
word_pushed words i xs ys ds d name x y less before after so is named first second =
    rw (so, is, named, first, second) (sym (word_at i words xs ys less before after) ∙ ap (λ n. words_data (take n (names_of words)) (take n xs) (take n ys)) (sym (add-one i)))

-- as many as there are words and values are all
pub all_taken : (n : ℕ) (words : List Word) (xs ys : List ℕ) → n ≡ min (min (length words) (length xs)) (length ys) → words_data (take n (names_of words)) (take n xs) (take n ys) ≡ words_data (names_of words) xs ys
all_taken zero [] xs ys is = refl
all_taken (suc n) [] xs ys is = refl
all_taken zero (word ∷ words) [] ys is = refl
all_taken (suc n) (word ∷ words) [] ys is = refl
all_taken zero (word ∷ words) (x ∷ xs) [] is = refl
all_taken (suc n) (word ∷ words) (x ∷ xs) [] is = refl
all_taken zero (word ∷ words) (x ∷ xs) (y ∷ ys) is = absurd (omega (arith, is))
all_taken (suc n) (word ∷ words) (x ∷ xs) (y ∷ ys) is = ap (λ ds. word_data word.name x y ∷ ds) (all_taken n words xs ys (omega (arith, is)))
