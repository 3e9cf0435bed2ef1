-- No token has an LF, so a token ends in the line in which it begins.
use Rattle.std.proofs.Common.{◌≡◌, ℕ, suc, ◌+◌, ◌≤◌, Bool, true, false, ◌&&◌, cond, eqb, List, [], ◌∷◌, length, take, drop, get_or, Option, Some, None, refl, sym, ap, ◌∙◌, arith, count_by, codes, length-take, take-add}
use Rattle.std.specs.Prelude.{is_none}
use Rattle.std.specs.List.{prefix_len}
use Rattle.std.specs.Str.{bytes_eq}
use Rattle.std.proofs.lemmas.Bool.{eqb-true}
use Rattle.std.proofs.lemmas.List.{take_all, take_more}
use Rattle.std.proofs.lemmas.List.Sums.{sum_by-cons, sum_by-append, count_by-le-length}
use Rattle.std.proofs.lemmas.Slice.Eq.{bytes_eq-Decides}
use Rattle.rg_text.specs.declared.kind.Kind.{Kind}
use Rattle.rg_text.specs.declared.kind.Kind.TheVariants.{Number, Primed}
use Rattle.rg_text.specs.declared.kind.Terminal.{Terminal}
use Rattle.std.specs.Char.{is_ascii_digit}
use Rattle.rg_words.specs.Names.{is_word_start, is_word_byte}
use Rattle.rg_text.specs.Spelling.{symbol_of, keyword_of, fixed_kind, kind_of_text}
use Rattle.rg_text.proofs.ByFirst.{named, word_kind, number_kind, symbol_kind, by_first, kind_by_first}
use Rattle.rg_text.specs.Tokenization.{line_at}

abbrev feeds : List ℕ → ℕ
feeds text = count_by (λ b. eqb b 10) text

take_next : (n b : ℕ) (bs : List ℕ) → take (1 + n) (b ∷ bs) ≡ b ∷ take n bs
take_next n b bs = let e : 1 + n ≡ suc n = omega arith in rw e refl

-- where bytes pass a test that LF fails, none of them is an LF
none_passed : (p : ℕ → Bool) → p 10 ≡ false → (text : List ℕ) → feeds (take (prefix_len p text) text) ≡ 0
none_passed p fails [] = refl
none_passed p fails (b ∷ bs) = go (p b) (eqb b 10) refl refl (none_passed p fails bs)
  where
    go : (v t : Bool) → p b ≡ v → eqb b 10 ≡ t → feeds (take (prefix_len p bs) bs) ≡ 0 → feeds (take (cond v (1 + prefix_len p bs) 0) (b ∷ bs)) ≡ 0
    go false t e is h = refl
    go true true e is h = let same : b ≡ 10 = eqb-true b 10 is in let f : p b ≡ false = rw same fails in cc
    go true false e is h =
        ap feeds (take_next (prefix_len p bs) b bs) ∙ sum_by-cons (λ b. cond (eqb b 10) 1 0) b (take (prefix_len p bs) bs) ∙ ap (λ t. cond t 1 0 + feeds (take (prefix_len p bs) bs)) is ∙ (omega arith)

-- bytes that all pass
none_all : (p : ℕ → Bool) → p 10 ≡ false → (text : List ℕ) → prefix_len p text ≡ length text → feeds text ≡ 0
none_all p fails text h =
    ap feeds (sym (take_all (prefix_len p text) text (omega arith))) ∙ none_passed p fails text

-- bytes that pass, and one more that is no LF
none_last : (p : ℕ → Bool) → p 10 ≡ false → (text : List ℕ) → prefix_len p text + 1 ≡ length text → get_or text (prefix_len p text) 0 ≡ 39 → feeds text ≡ 0
none_last p fails text h prime =
    let n = prefix_len p text in
    ap feeds (sym (take_all (n + 1) text (omega arith)) ∙ take_more text n 0 (omega arith))
    ∙ sum_by-append (λ b. cond (eqb b 10) 1 0) (take n text) (get_or text n 0 ∷ [])
    ∙ ap (λ x. feeds (take n text) + feeds (x ∷ [])) prime
    ∙ ap (λ x. x + 0) (none_passed p fails text)

none_in_number : (text : List ℕ) (k : Kind) → number_kind text ≡ Some k → feeds text ≡ 0
unfolding number_kind
none_in_number text k h = go (eqb (prefix_len is_ascii_digit text) (length text)) refl h
  where
    go : (v : Bool) → eqb (prefix_len is_ascii_digit text) (length text) ≡ v → cond v (Some Number) None ≡ Some k → feeds text ≡ 0
    go true e h = none_all is_ascii_digit refl text (eqb-true _ _ e)
    go false e h = cc

none_in_word : (text : List ℕ) (k : Kind) → word_kind text ≡ Some k → feeds text ≡ 0
unfolding word_kind
none_in_word text k h = go (eqb n (length text)) (eqb (n + 1) (length text)) (eqb (get_or text n 0) 39) (is_none (keyword_of (take n text))) refl refl refl h
  where
    n : ℕ
    n = prefix_len is_word_byte text

    go : (v w x y : Bool) → eqb n (length text) ≡ v → eqb (n + 1) (length text) ≡ w → eqb (get_or text n 0) 39 ≡ x → cond v (Some (named (keyword_of text))) (cond (w && (x && y)) (Some Primed) None) ≡ Some k → feeds text ≡ 0
    go true w x y e f g h = none_all is_word_byte refl text (eqb-true _ _ e)
    go false true true y e f g h = none_last is_word_byte refl text (eqb-true _ _ f) (eqb-true _ _ g)
    go false true false y e f g h = cc
    go false false x y e f g h = cc

-- one of several texts without LF
spelled : (s text : List ℕ) (t u : Terminal) (o : Option Terminal) → feeds s ≡ 0 → (o ≡ Some u → feeds text ≡ 0) → cond (bytes_eq text s) (Some t) o ≡ Some u → feeds text ≡ 0
spelled s text t u o none others = go (bytes_eq text s) refl
  where
    go : (v : Bool) → bytes_eq text s ≡ v → cond v (Some t) o ≡ Some u → feeds text ≡ 0
    go true e h = ap feeds ((bytes_eq-Decides text s).0 e) ∙ none
    go false e h = others h

none_in_symbol : (text : List ℕ) (t : Terminal) → symbol_of text ≡ Some t → feeds text ≡ 0
unfolding symbol_of
none_in_symbol text t =
    spelled (codes "(") text _ t _ refl
    (spelled (codes ")") text _ t _ refl
    (spelled (codes ":") text _ t _ refl
    (spelled (codes ";") text _ t _ refl
    (spelled (codes ":=") text _ t _ refl
    (spelled (codes "=") text _ t _ refl
    (spelled (codes "!=") text _ t _ refl
    (spelled (codes "<") text _ t _ refl
    (spelled (codes "<=") text _ t _ refl
    (spelled (codes ">") text _ t _ refl
    (spelled (codes ">=") text _ t _ refl
    (spelled (codes "+") text _ t _ refl
    (spelled (codes "-") text _ t None refl (λ h. cc)))))))))))))

none_in_symbol_kind : (text : List ℕ) (k : Kind) → symbol_kind text ≡ Some k → feeds text ≡ 0
unfolding symbol_kind
none_in_symbol_kind text k h = go (symbol_of text) refl h
  where
    go : (o : Option Terminal) → symbol_of text ≡ o → fixed_kind None o ≡ Some k → feeds text ≡ 0
    go (Some t) e f = none_in_symbol text t e
    go None e f = cc

none_in_token : (text : List ℕ) (k : Kind) → kind_of_text text ≡ Some k → feeds text ≡ 0
none_in_token text k h = by_cases text (sym (kind_by_first text) ∙ h)
  where
    first : (b : ℕ) (bs : List ℕ) (v w : Bool) → cond v (word_kind (b ∷ bs)) (cond w (number_kind (b ∷ bs)) (symbol_kind (b ∷ bs))) ≡ Some k → feeds (b ∷ bs) ≡ 0
    first b bs true w h = none_in_word (b ∷ bs) k h
    first b bs false true h = none_in_number (b ∷ bs) k h
    first b bs false false h = none_in_symbol_kind (b ∷ bs) k h

    by_cases : (text : List ℕ) → by_first text ≡ Some k → feeds text ≡ 0
    by_cases [] h = refl
    by_cases (b ∷ bs) h = first b bs (is_word_start b) (is_ascii_digit b) h

-- the line some bytes on
pub line_on : (source : List ℕ) (place n : ℕ) → line_at source (place + n) ≡ line_at source place + count_by (λ b. eqb b 10) (take n (drop place source))
line_on source place n =
    let e : feeds (take (place + n) source) ≡ feeds (take place source) + feeds (take n (drop place source)) =
    ap feeds (take-add place n source) ∙ sum_by-append (λ b. cond (eqb b 10) 1 0) (take place source) (take n (drop place source)) in
    omega (arith, e)

-- a token ends in its line
pub line_after : (source : List ℕ) (start n : ℕ) (k : Kind) → kind_of_text (take n (drop start source)) ≡ Some k → line_at source (start + n) ≡ line_at source start
line_after source start n k h =
    let e : line_at source (start + n) ≡ line_at source start + feeds (take n (drop start source)) = line_on source start n in
    let none : feeds (take n (drop start source)) ≡ 0 = none_in_token (take n (drop start source)) k h in
    omega (arith, e, none)

-- there are no more lines than one more than bytes
pub lines_bound : (source : List ℕ) (place : ℕ) → line_at source place ≤ length source + 1
lines_bound source place =
    omega (arith, count_by-le-length (λ b. eqb b 10) (take place source), length-take place source)
