-- Lists of tokens: one more at the end, what each says, and that a source has one list.
use Rattle.std.proofs.Common.{Some, ◌≡◌, ℕ, ◌+◌, ◌-◌, ◌≤◌, inl, inr, List, [], ◌∷◌, ◌++◌, length, drop, refl, sym, ap, ◌∙◌, get_or, arith, length-drop}
use Rattle.std.specs.List.{All, AllByRecursion}
use Rattle.std.proofs.lemmas.Bool.{cases_order}
use Rattle.std.proofs.lemmas.List.Elements.{All-from_recursion}
use Rattle.rg_text.specs.declared.kind.Kind.{Kind}
use Rattle.rg_text.specs.declared.token.Token.{Token}
use Rattle.rg_text.specs.Text.{text_of}
use Rattle.rg_text.specs.Tokenization.{gap_end, line_at, IsLongest, BeginsNoToken, IsNextToken, AreTokens, IsTokenized, IsBadByte, IsTokenOf}
use Rattle.rg_text.proofs.ByFirst.{no_bytes}
use Rattle.rg_text.proofs.KindTexts.{name_text, primed_text}
use Rattle.rg_text.proofs.LineFeeds.{lines_bound}

-- one more token
pub one_more : (source : List ℕ) (from to : ℕ) (ts : List Token) (t : Token) → AreTokens source from ts to → IsNextToken source to t → AreTokens source from (ts ++ t ∷ []) t.end
one_more source from to [] t h next = (rw h next, refl)
one_more source from to (u ∷ ts) t h next = (h.0, one_more source u.end to ts t h.1 next)

pub is_token_of : (source : List ℕ) (place : ℕ) (t : Token) → IsNextToken source place t → IsTokenOf source t
is_token_of source place t h =
    let some = h.longest.some in
    let within = h.longest.within in
    record {
      some = omega arith;
      within = omega (arith, length-drop t.start source);
      kind = h.longest.is;
      line = h.line;
      name = λ e. name_text (text_of source t) (h.longest.is ∙ ap Some e);
      primed = λ e. primed_text (text_of source t) (h.longest.is ∙ ap Some e);
    }

pub each_token : (source : List ℕ) (from to : ℕ) (ts : List Token) → AreTokens source from ts to → AllByRecursion (IsTokenOf source) ts
each_token source from to [] h = tt
each_token source from to (t ∷ ts) h = (is_token_of source from t h.0, each_token source t.end to ts h.1)

-- only one length is the longest
longest_one : (bytes : List ℕ) (n m : ℕ) (k j : Kind) → IsLongest bytes n k → IsLongest bytes m j → (n ≡ m) × (k ≡ j)
longest_one bytes n m k j h g =
    elim (cases_order n m) [
      | inl e ↦ (e, let is = h.is in let other = rw (sym e) at g.is in cc)
      | inr (inl lt) ↦ let none = h.longest m lt g.within in let is = g.is in absurd (cc)
      | inr (inr lt) ↦ let none = g.longest n lt h.within in let is = h.is in absurd (cc)
    ]

token_same : (t u : Token) → t.kind ≡ u.kind → t.start ≡ u.start → t.end ≡ u.end → t.line ≡ u.line → t ≡ u
token_same t u k s e l = λ i. record { kind = k i; start = s i; end = e i; line = l i }

next_one : (source : List ℕ) (place : ℕ) (t u : Token) → IsNextToken source place t → IsNextToken source place u → t ≡ u
next_one source place t u h g =
    let start : t.start ≡ u.start = h.start ∙ sym g.start in
    let other = rw (sym start) at g.longest in
    let same = longest_one (drop t.start source) (t.end - t.start) (u.end - t.start) t.kind u.kind h.longest other in
    let here = h.longest.some in
    let there = g.longest.some in
    token_same t u same.1 start (omega (arith, same.0)) (h.line ∙ ap (line_at source) start ∙ sym g.line)

-- no token stands after the gap at a place
abbrev pub Stops : List ℕ → ℕ → Type 0
Stops source place = BeginsNoToken (drop (gap_end source place) source)

stops_none : (source : List ℕ) (place : ℕ) (t : Token) → Stops source place → IsNextToken source place t → ⊥
stops_none source place t stops h =
    let none = rw (sym h.start) at (stops (t.end - t.start)) in
    let is = h.longest.is in
    let none = none h.longest.within in
    cc

-- where two lists of tokens go as far as they can, they are one
pub lists_one : (source : List ℕ) (from a b : ℕ) (ts us : List Token) → AreTokens source from ts a → AreTokens source from us b → Stops source a → Stops source b → (ts ≡ us) × (a ≡ b)
lists_one source from a b [] [] h g p q = (refl, sym h ∙ g)
lists_one source from a b [] (u ∷ us) h g p q = absurd (stops_none source from u (rw (sym h) at p) g.0)
lists_one source from a b (t ∷ ts) [] h g p q = absurd (stops_none source from t (rw (sym g) at q) h.0)
lists_one source from a b (t ∷ ts) (u ∷ us) h g p q =
    let same : t ≡ u = next_one source from t u h.0 g.0 in
    let rest = lists_one source t.end a b ts us h.1 (rw (sym same) at g.1) p q in
    (let tail = rest.0 in cc, rest.1)

-- at the end of the source nothing stands
pub end_stops : (source : List ℕ) (place : ℕ) → gap_end source place ≡ length source → Stops source place
end_stops source place e = rw e (no_bytes (drop (length source) source) (omega (arith, length-drop (length source) source)))

pub tokens_one : (source : List ℕ) (ts us : List Token) → IsTokenized source ts → IsTokenized source us → ts ≡ us
tokens_one source ts us h g =
    (lists_one source 0 h.0 g.0 ts us h.1 g.1 (end_stops source h.0 h.2) (end_stops source g.0 g.2)).0

bad_stops : (source : List ℕ) (place : ℕ) (h : IsBadByte source place) → Stops source h.to
bad_stops source place h = rw h.gap h.bad

pub bad_one : (source : List ℕ) (place other : ℕ) → IsBadByte source place → IsBadByte source other → place ≡ other
bad_one source place other h g =
    let same = (lists_one source 0 h.to g.to h.before g.before h.tokens g.tokens (bad_stops source place h) (bad_stops source other g)).1 in
    sym h.gap ∙ ap (gap_end source) same ∙ g.gap

pub never_both : (source : List ℕ) (ts : List Token) (place : ℕ) → IsTokenized source ts → IsBadByte source place → ⊥
never_both source ts place h g =
    let same = (lists_one source 0 h.0 g.to ts g.before h.1 g.tokens (end_stops source h.0 h.2) (bad_stops source place g)).1 in
    let ends : place ≡ length source = sym g.gap ∙ ap (gap_end source) (sym same) ∙ h.2 in
    let byte = g.byte in
    omega arith

pub all_of_source : (source : List ℕ) (ts : List Token) → IsTokenized source ts → All (IsTokenOf source) ts
all_of_source source ts h = All-from_recursion (IsTokenOf source) ts (each_token source 0 h.0 ts h.1)

pub all_lines : (source : List ℕ) (ts : List Token) → IsTokenized source ts → (most : ℕ) → length source ≤ most → All (λ t. t.line ≤ most + 1) ts
all_lines source ts h most le = λ k d lt.
    let t = all_of_source source ts h k d lt in
    omega (arith, t.line, lines_bound source (get_or ts k d).start)
