-- One turn of the loop that cuts a source: over the gap, and over the token after it.
use Rattle.std.proofs.Common.{◌≡◌, ℕ, ◌+◌, ◌-◌, ◌≤◌, eqb, List, [], ◌∷◌, ◌++◌, length, take, drop, sym, ap, ◌∙◌, arith, count_by, length-drop}
use Rattle.std.proofs.lemmas.List.{take_rest}
use Rattle.rg_text.specs.declared.kind.Kind.{Kind}
use Rattle.rg_text.specs.declared.token.Token.{Token}
use Rattle.rg_text.specs.Tokenization.{gap_len, gap_end, line_at, IsLongest, BeginsNoToken, IsNextToken, AreTokens, IsBadByte}
use Rattle.rg_text.proofs.LineFeeds.{line_on, line_after}
use Rattle.rg_text.proofs.TokenLists.{one_more}

-- the bytes from a place on, as a slice has them
abbrev pub rest_from : List ℕ → ℕ → List ℕ
rest_from source place = take (length source - place) (drop place source)

module _ (source : List ℕ) (end gap line feeds : ℕ) (skipped : gap ≡ gap_len (rest_from source end)) (lines : line ≡ line_at source end) (counted : feeds ≡ count_by (λ b. eqb b 10) (take (end + gap - end) (drop end source))) where
  after_gap : end + gap ≡ gap_end source end
  after_gap = ap (λ n. end + n) (skipped ∙ ap gap_len (take_rest source end))

  pub line_after_gap : line + feeds ≡ line_at source (end + gap)
  line_after_gap =
      let n : end + gap - end ≡ gap = omega arith in
      let feeds_are : feeds ≡ count_by (λ b. eqb b 10) (take gap (drop end source)) = rw n at counted in
      let on : line_at source (end + gap) ≡ line_at source end + count_by (λ b. eqb b 10) (take gap (drop end source)) = line_on source end gap in
      omega (arith, on, feeds_are)

  pub bad_byte : (ts : List Token) → AreTokens source 0 ts end → end ≤ length source → gap ≤ length (rest_from source end) → (end + gap ≡ length source → ⊥) → BeginsNoToken (rest_from source (end + gap)) → IsBadByte source (end + gap)
  bad_byte ts tokens inside within before bad = record {
    before = ts;
    to = end;
    tokens = tokens;
    gap = sym after_gap;
    byte = let within : gap ≤ length (drop end source) = rw (take_rest source end) at within in omega (arith, length-drop end source);
    bad = rw (take_rest source (end + gap)) at bad;
  }

  module _ (len : ℕ) (kind : Kind) (longest : IsLongest (rest_from source (end + gap)) len kind) where
    here : IsLongest (drop (end + gap) source) len kind
    here = rw (take_rest source (end + gap)) at longest

    next : IsNextToken source end (record { kind = kind; start = end + gap; end = end + gap + len; line = line + feeds })
    next = record {
      start = after_gap;
      longest = let n : end + gap + len - (end + gap) ≡ len = omega arith in rw n here;
      line = line_after_gap;
    }

    pub tokens_to : (ts us : List Token) → AreTokens source 0 ts end → us ≡ ts ++ record { kind = kind; start = end + gap; end = end + gap + len; line = line + feeds } ∷ [] → AreTokens source 0 us (end + gap + len)
    tokens_to ts us tokens is = rw is (one_more source 0 end ts _ tokens next)

    pub line_there : line + feeds ≡ line_at source (end + gap + len)
    line_there = line_after_gap ∙ sym (line_after source (end + gap) len kind here.is)

    pub end_within : end ≤ length source → gap ≤ length (rest_from source end) → end + gap + len ≤ length source
    end_within inside within =
        let within : gap ≤ length (drop end source) = rw (take_rest source end) at within in
        let room : len ≤ length (drop (end + gap) source) = here.within in
        omega (arith, length-drop end source, length-drop (end + gap) source)
