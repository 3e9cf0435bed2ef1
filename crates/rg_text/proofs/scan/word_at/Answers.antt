use Rattle.std.proofs.Common.{◌≡◌, ◌≢◌, ℕ, ◌+◌, ◌<◌, Bool, true, false, ◌&&◌, eqb, List, [], ◌∷◌, length, take, get_or, Option, Some, None, refl, sym, ap, arith}
use Rattle.std.specs.Prelude.{is_none}
use Rattle.std.specs.List.{prefix_len}
use Rattle.std.proofs.lemmas.Bool.Decides.{nat_tests}
use Rattle.std.proofs.lemmas.List.{get_or_past}
use Rattle.rg_text.specs.declared.kind.Kind.TheVariants.{Name, Primed, Fixed}
use Rattle.rg_text.specs.declared.kind.Terminal.{Terminal}
use Rattle.rg_words.specs.Names.{is_word_start, is_word_byte}
use Rattle.rg_text.specs.Spelling.{keyword_of}
use Rattle.rg_text.proofs.ByFirst.{named}
use Rattle.rg_text.specs.Tokenization.{IsLongest}
use Rattle.rg_text.proofs.Longest.{longest_word, longest_primed}
use Rattle.rg_text.proofs.scan.word_at.Goals as goal

keyword_found : (bytes : List ℕ) (t : Terminal) → 0 < length bytes → is_word_start (get_or bytes 0 0) ≡ true → keyword_of (take (prefix_len is_word_byte bytes) bytes) ≡ Some t → IsLongest bytes (prefix_len is_word_byte bytes) (Fixed t)
keyword_found [] t lt l k = absurd (omega arith)
keyword_found (b ∷ bs) t lt l k =
    rw (ap named (sym k)) (longest_word b bs l (counts (eqb (get_or (b ∷ bs) (prefix_len is_word_byte (b ∷ bs)) 0) 39) (keyword_of (take (prefix_len is_word_byte (b ∷ bs)) (b ∷ bs))) k))
  where
    counts : (x : Bool) (o : Option Terminal) → o ≡ Some t → (x && is_none o) ≡ false
    counts true None e = cc
    counts true (Some u) e = refl
    counts false o e = refl

primed_found : (bytes : List ℕ) → is_word_start (get_or bytes 0 0) ≡ true → keyword_of (take (prefix_len is_word_byte bytes) bytes) ≡ None → prefix_len is_word_byte bytes < length bytes → get_or bytes (prefix_len is_word_byte bytes) 0 ≡ 39 → IsLongest bytes (prefix_len is_word_byte bytes + 1) Primed
primed_found [] l k lt p = absurd (omega arith)
primed_found (b ∷ bs) l k lt p = longest_primed b bs l lt (counts _ _ p k)
  where
    counts : (n : ℕ) (o : Option Terminal) → n ≡ 39 → o ≡ None → (eqb n 39 && is_none o) ≡ true
    counts n o e f = rw (e, f) refl

name_found : (bytes : List ℕ) → 0 < length bytes → is_word_start (get_or bytes 0 0) ≡ true → keyword_of (take (prefix_len is_word_byte bytes) bytes) ≡ None → get_or bytes (prefix_len is_word_byte bytes) 0 ≢ 39 → IsLongest bytes (prefix_len is_word_byte bytes) Name
name_found [] lt l k p = absurd (omega arith)
name_found (b ∷ bs) lt l k p = rw (ap named (sym k)) (longest_word b bs l (counts _ _ p))
  where
    counts : (n : ℕ) (o : Option Terminal) → n ≢ 39 → (eqb n 39 && is_none o) ≡ false
    counts n o e = let f : eqb n 39 ≡ false = grind (arith, nat_tests) in rw f refl

pub returns-in-Some : goal.returns-in-Some
returns-in-Some c =
    rw c.word_len-end.ensures (keyword_found c.args.bytes.now c.in-Some.terminal c.requires.some c.requires.start (sym (rw c.word_len-end.ensures at c.in-Some.ensures)))

pub returns-then-end-bytes : goal.returns-then-end-bytes
returns-then-end-bytes c =
    let past = get_or_past c.args.bytes.now c.word_len-end.result 0 c.if-end-bytes.true in
    rw c.word_len-end.ensures (name_found c.args.bytes.now c.requires.some c.requires.start (sym (rw c.word_len-end.ensures at c.in_default.ensures)) (rw c.word_len-end.ensures at (differs _ past)))
  where
    differs : (n : ℕ) → n ≡ 0 → n ≢ 39
    differs n e f = absurd (omega arith)

pub returns-then-bytes-end-eq39 : goal.returns-then-bytes-end-eq39
returns-then-bytes-end-eq39 c =
    rw c.word_len-end.ensures (primed_found c.args.bytes.now c.requires.start (sym (rw c.word_len-end.ensures at c.in_default.ensures)) (rw c.word_len-end.ensures at c.if-end-bytes.false) (rw c.word_len-end.ensures at c.if-bytes-end-eq39.true))

pub returns : goal.returns
returns c =
    rw c.word_len-end.ensures (name_found c.args.bytes.now c.requires.some c.requires.start (sym (rw c.word_len-end.ensures at c.in_default.ensures)) (rw c.word_len-end.ensures at c.if-bytes-end-eq39.false))
