-- How far a word or a number goes.
use Rattle.std.proofs.Common.{◌≡◌, ℕ, zero, suc, ◌+◌, ◌<◌, ◌≤◌, min, Bool, true, false, ◌&&◌, cond, eqb, List, ◌∷◌, length, take, get_or, Option, Some, None, refl, ap, ◌∙◌, arith, length-take}
use Rattle.std.specs.List.{prefix_len}
use Rattle.std.proofs.lemmas.Bool.Decides.{nat_tests}
use Rattle.std.specs.Prelude.{is_none}
use Rattle.std.proofs.lemmas.List.{get_or-take, take-take}
use Rattle.std.proofs.lemmas.List.Sums.{prefix_len-le-length}
use Rattle.rg_text.specs.declared.kind.Kind.{Kind}
use Rattle.rg_text.specs.declared.kind.Kind.TheVariants.{Primed, Number}
use Rattle.std.specs.Char.{is_ascii_digit}
use Rattle.rg_words.specs.Names.{is_word_start, is_word_byte}
use Rattle.rg_text.specs.Spelling.{keyword_of, kind_of_text}
use Rattle.rg_text.proofs.ByFirst.{named, word_kind, number_kind, prefix_len-take, kind_by_first}
use Rattle.rg_text.specs.Tokenization.{IsLongest}

-- a text that begins with a digit is a number just where it has only digits
begins_number : (m : ℕ) (b : ℕ) (bs : List ℕ) → is_word_start b ≡ false → is_ascii_digit b ≡ true → 0 < m → kind_of_text (take m (b ∷ bs)) ≡ number_kind (take m (b ∷ bs))
begins_number zero b bs l d lt = absurd (omega arith)
begins_number (suc m) b bs l d lt = kind_by_first (b ∷ take m bs) ∙ rw (l, d) refl

number_of_take : (m : ℕ) (bytes : List ℕ) → m ≤ length bytes → number_kind (take m bytes) ≡ cond (eqb (min m (prefix_len is_ascii_digit bytes)) m) (Some Number) None
unfolding number_kind
number_of_take m bytes le =
    let long : length (take m bytes) ≡ m = omega (arith, length-take m bytes) in
    ap (λ n. cond (eqb n (length (take m bytes))) (Some Number) None) (prefix_len-take is_ascii_digit m bytes) ∙ ap (λ n. cond (eqb (min m (prefix_len is_ascii_digit bytes)) n) (Some Number) None) long

no_letter : (b : ℕ) → is_ascii_digit b ≡ true → is_word_start b ≡ false
no_letter b d = grind (arith, nat_tests)

passes_first : (p : ℕ → Bool) (b : ℕ) (bs : List ℕ) → p b ≡ true → 0 < prefix_len p (b ∷ bs)
passes_first p b bs h = rw h (omega arith)

pub longest_number : (b : ℕ) (bs : List ℕ) → is_ascii_digit b ≡ true → IsLongest (b ∷ bs) (prefix_len is_ascii_digit (b ∷ bs)) Number
longest_number b bs d =
    let l = no_letter b d in
    let n = prefix_len is_ascii_digit (b ∷ bs) in
    let some : 0 < n = passes_first is_ascii_digit b bs d in
    let within : n ≤ length (b ∷ bs) = prefix_len-le-length is_ascii_digit (b ∷ bs) in
    record {
      some = some;
      within = within;
      is = begins_number n b bs l d some ∙ number_of_take n (b ∷ bs) within ∙ same n;
      longest = λ m lt le. begins_number m b bs l d (omega arith) ∙ number_of_take m (b ∷ bs) le ∙ differs m n lt;
    }
  where
    same : (n : ℕ) → cond (eqb (min n n) n) (Some Number) None ≡ Some Number
    same n = let e : eqb (min n n) n ≡ true = grind (arith, nat_tests) in rw e refl

    differs : (m n : ℕ) → n < m → cond (eqb (min m n) m) (Some Number) None ≡ None
    differs m n lt = let e : eqb (min m n) m ≡ false = grind (arith, nat_tests) in rw e refl

begins_word : (m : ℕ) (b : ℕ) (bs : List ℕ) → is_word_start b ≡ true → 0 < m → kind_of_text (take m (b ∷ bs)) ≡ word_kind (take m (b ∷ bs))
begins_word zero b bs l lt = absurd (omega arith)
begins_word (suc m) b bs l lt = kind_by_first (b ∷ take m bs) ∙ rw l refl

-- the kind of a word text, by how far its word goes, its length, the byte after the word and the word's keyword
abbrev reported : ℕ → ℕ → List ℕ → ℕ → List ℕ → Option Kind
reported n len text next front =
    cond (eqb n len) (Some (named (keyword_of text))) (cond (eqb (n + 1) len && (eqb next 39 && is_none (keyword_of front))) (Some Primed) None)

word_of_take : (m : ℕ) (bytes : List ℕ) → m ≤ length bytes → (let n = min m (prefix_len is_word_byte bytes) in word_kind (take m bytes) ≡ reported n m (take m bytes) (get_or (take m bytes) n 0) (take n (take m bytes)))
unfolding word_kind
word_of_take m bytes le =
    let long : length (take m bytes) ≡ m = omega (arith, length-take m bytes) in
    ap (λ n. reported n (length (take m bytes)) (take m bytes) (get_or (take m bytes) n 0) (take n (take m bytes))) (prefix_len-take is_word_byte m bytes)
    ∙ ap (λ len. reported (min m (prefix_len is_word_byte bytes)) len (take m bytes) (get_or (take m bytes) (min m (prefix_len is_word_byte bytes)) 0) (take (min m (prefix_len is_word_byte bytes)) (take m bytes))) long

module _ (b : ℕ) (bs : List ℕ) (l : is_word_start b ≡ true) where
  abbrev end : ℕ
  end = prefix_len is_word_byte (b ∷ bs)

  some_word : 0 < end
  some_word = let w : is_word_byte b ≡ true = grind (arith, nat_tests) in passes_first is_word_byte b bs w

  -- the word itself
  at_word : kind_of_text (take end (b ∷ bs)) ≡ Some (named (keyword_of (take end (b ∷ bs))))
  at_word =
      let within : end ≤ length (b ∷ bs) = prefix_len-le-length is_word_byte (b ∷ bs) in
      begins_word end b bs l some_word ∙ word_of_take end (b ∷ bs) within ∙ same end (take end (b ∷ bs))
    where
      same : (n : ℕ) (text : List ℕ) → reported (min n n) n text (get_or text (min n n) 0) (take (min n n) text) ≡ Some (named (keyword_of text))
      same n text = let e : eqb (min n n) n ≡ true = grind (arith, nat_tests) in rw e refl

  -- more than the word
  past_word : (m : ℕ) → end < m → m ≤ length (b ∷ bs) → kind_of_text (take m (b ∷ bs)) ≡ cond (eqb (end + 1) m && (eqb (get_or (b ∷ bs) end 0) 39 && is_none (keyword_of (take end (b ∷ bs))))) (Some Primed) None
  past_word m lt le =
      let least : min m end ≡ end = omega arith in
      let apart : eqb end m ≡ false = grind (arith, nat_tests) in
      let low : end ≤ m = omega arith in
      begins_word m b bs l (omega arith)
      ∙ word_of_take m (b ∷ bs) le
      ∙ ap (λ n. reported n m (take m (b ∷ bs)) (get_or (take m (b ∷ bs)) n 0) (take n (take m (b ∷ bs)))) least
      ∙ ap (λ t. cond t (Some (named (keyword_of (take m (b ∷ bs))))) (cond (eqb (end + 1) m && (eqb (get_or (take m (b ∷ bs)) end 0) 39 && is_none (keyword_of (take end (take m (b ∷ bs)))))) (Some Primed) None)) apart
      ∙ ap (λ c. cond (eqb (end + 1) m && (eqb c 39 && is_none (keyword_of (take end (take m (b ∷ bs)))))) (Some Primed) None) (get_or-take m (b ∷ bs) end 0 lt)
      ∙ ap (λ text. cond (eqb (end + 1) m && (eqb (get_or (b ∷ bs) end 0) 39 && is_none (keyword_of text))) (Some Primed) None) (take-take end m (b ∷ bs) low)

  -- a prime stands after a word that is no keyword
  abbrev prime : Bool
  prime = eqb (get_or (b ∷ bs) end 0) 39 && is_none (keyword_of (take end (b ∷ bs)))

  no_prime : (a c : Bool) → c ≡ false → cond (a && c) (Some Primed) None ≡ None
  no_prime true c h = rw h refl
  no_prime false c h = refl

  -- a word with no prime that counts after it
  pub longest_word : (eqb (get_or (b ∷ bs) end 0) 39 && is_none (keyword_of (take end (b ∷ bs)))) ≡ false → IsLongest (b ∷ bs) end (named (keyword_of (take end (b ∷ bs))))
  longest_word h = record {
    some = some_word;
    within = prefix_len-le-length is_word_byte (b ∷ bs);
    is = at_word;
    longest = λ m lt le. past_word m lt le ∙ no_prime (eqb (end + 1) m) prime h;
  }

  -- a name and a prime
  pub longest_primed : end < length (b ∷ bs) → (eqb (get_or (b ∷ bs) end 0) 39 && is_none (keyword_of (take end (b ∷ bs)))) ≡ true → IsLongest (b ∷ bs) (end + 1) Primed
  longest_primed room h = record {
    some = omega arith;
    within = omega arith;
    is = past_word (end + 1) (omega arith) (omega arith) ∙ primed_at (end + 1) prime h;
    longest = λ m lt le. past_word m (omega arith) le ∙ none_past m (omega arith) prime;
  }
    where
      primed_at : (n : ℕ) (c : Bool) → c ≡ true → cond (eqb n n && c) (Some Primed) None ≡ Some Primed
      primed_at n c h = let e : eqb n n ≡ true = grind (arith, nat_tests) in rw (e, h) refl

      none_past : (m : ℕ) → end + 1 < m → (c : Bool) → cond (eqb (end + 1) m && c) (Some Primed) None ≡ None
      none_past m lt c = let e : eqb (end + 1) m ≡ false = grind (arith, nat_tests) in rw e refl
