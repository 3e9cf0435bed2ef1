-- A symbol has one byte or two, and the longer one is taken.
use Rattle.std.proofs.Common.{◌≡◌, ℕ, zero, suc, ◌<◌, ◌≤◌, Bool, true, false, ◌&&◌, List, [], ◌∷◌, length, take, Option, Some, None, refl, ap, ◌∙◌, arith}
use Rattle.rg_text.specs.declared.kind.Kind.TheVariants.{Fixed}
use Rattle.rg_text.specs.declared.kind.Terminal.{Terminal}
use Rattle.std.specs.Char.{is_ascii_digit}
use Rattle.rg_words.specs.Names.{is_word_start}
use Rattle.rg_text.specs.Spelling.{symbol_of, fixed_kind, kind_of_text}
use Rattle.rg_text.proofs.ByFirst.{symbol_kind, kind_by_first}
use Rattle.rg_text.specs.Tokenization.{IsLongest, BeginsNoToken}

and_false : (x : Bool) → (x && false) ≡ false
and_false true = refl
and_false false = refl

-- no symbol has three bytes
three : (a b c : ℕ) (bytes : List ℕ) → symbol_of (a ∷ b ∷ c ∷ bytes) ≡ None
unfolding symbol_of
three a b c bytes = simp and_false refl

symbol_is : (text : List ℕ) (o : Option Terminal) → symbol_of text ≡ o → symbol_kind text ≡ fixed_kind None o
unfolding symbol_kind
symbol_is text o h = ap (fixed_kind None) h

module _ (a : ℕ) (no_word : is_word_start a ≡ false) (no_number : is_ascii_digit a ≡ false) where
  -- what begins with no letter, `_` or digit is a symbol or no token
  begins_symbol : (bs : List ℕ) → kind_of_text (a ∷ bs) ≡ symbol_kind (a ∷ bs)
  begins_symbol bs = kind_by_first (a ∷ bs) ∙ rw (no_word, no_number) refl

  past_two : (m : ℕ) (bs : List ℕ) → 2 < m → m ≤ length (a ∷ bs) → kind_of_text (take m (a ∷ bs)) ≡ None
  past_two zero bs lt le = absurd (omega arith)
  past_two (suc zero) bs lt le = absurd (omega arith)
  past_two (suc (suc zero)) bs lt le = absurd (omega arith)
  past_two (suc (suc (suc m))) [] lt le = absurd (omega arith)
  past_two (suc (suc (suc m))) (b ∷ []) lt le = absurd (omega arith)
  past_two (suc (suc (suc m))) (b ∷ c ∷ bs) lt le = begins_symbol (b ∷ c ∷ take m bs) ∙ symbol_is _ _ (three a b c (take m bs))

  past_one : (m : ℕ) (bs : List ℕ) → (1 < length (a ∷ bs) → symbol_of (take 2 (a ∷ bs)) ≡ None) → 1 < m → m ≤ length (a ∷ bs) → kind_of_text (take m (a ∷ bs)) ≡ None
  past_one zero bs short lt le = absurd (omega arith)
  past_one (suc zero) bs short lt le = absurd (omega arith)
  past_one (suc (suc zero)) bs short lt le = begins_symbol (take 1 bs) ∙ symbol_is _ _ (short (omega arith))
  past_one (suc (suc (suc m))) bs short lt le = past_two (suc (suc (suc m))) bs (omega arith) le

  pub longest_long : (bs : List ℕ) (t : Terminal) → 1 < length (a ∷ bs) → symbol_of (take 2 (a ∷ bs)) ≡ Some t → IsLongest (a ∷ bs) 2 (Fixed t)
  longest_long bs t room h = record {
    some = omega arith;
    within = omega arith;
    is = begins_symbol (take 1 bs) ∙ symbol_is _ _ h;
    longest = λ m lt le. past_two m bs lt le;
  }

  pub longest_short : (bs : List ℕ) (t : Terminal) → (1 < length (a ∷ bs) → symbol_of (take 2 (a ∷ bs)) ≡ None) → symbol_of (a ∷ []) ≡ Some t → IsLongest (a ∷ bs) 1 (Fixed t)
  longest_short bs t short h = record {
    some = omega arith;
    within = omega arith;
    is = begins_symbol [] ∙ symbol_is _ _ h;
    longest = λ m lt le. past_one m bs short lt le;
  }

  pub no_symbol : (bs : List ℕ) → (1 < length (a ∷ bs) → symbol_of (take 2 (a ∷ bs)) ≡ None) → symbol_of (a ∷ []) ≡ None → BeginsNoToken (a ∷ bs)
  no_symbol bs short h zero le = kind_by_first []
  no_symbol bs short h (suc zero) le = begins_symbol [] ∙ symbol_is _ _ h
  no_symbol bs short h (suc (suc m)) le = past_one (suc (suc m)) bs short (omega arith) le
