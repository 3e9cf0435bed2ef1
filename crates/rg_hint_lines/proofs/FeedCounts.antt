-- lines that are counted by their line feeds, and lines in which no s stands
use Rattle.std.proofs.Common.{◌≡◌, ◌⊎◌, ℕ, ◌+◌, ◌-◌, Bool, true, false, cond, eqb, List, [], ◌∷◌, ◌++◌, length, map, take, get_or, refl, sym, ap, ◌∙◌, inl, inr, ⊎_elim, subst, arith}
use Rattle.std.specs.Prelude.{All, count_by}
use Rattle.std.specs.List.{slice_split, onto_first}
use Rattle.std.specs.Str.Lines.{lines, strip_carriage_return}
use Rattle.std.proofs.lemmas.Bool.{cases_Bool}
use Rattle.std.proofs.lemmas.List.{length-map, length-append, append_assoc, nil_from_length}
use Rattle.std.proofs.lemmas.List.Elements.{All-nil, All-cons, All-head, All-tail, All-append, All-filter, All-take}
use Rattle.std.proofs.lemmas.List.Splits.{length-slice_split}
use Rattle.std.proofs.lemmas.List.Sums.{sum_by-append}
use Rattle.std.proofs.Math.Seq.{take-append_seam}
use Rattle.rg_hint_lines.specs.Text.{is_blank, is_filled, fields_of}
use Rattle.rg_hint_lines.specs.Sections.{is_head}
use Rattle.rg_hint_lines.specs.LineEnds.{EndsLine}
use Rattle.rg_hint_lines.specs.Inner.Fronts.{is_line_feed}
use Rattle.rg_hint_lines.specs.Inner.SectionForms.{HasNoS, IsPlain, AreFrontLines, ArePlainLines}
use Rattle.rg_hint_lines.proofs.LineCuts.{lines_append, lines_ended, lines_join, ends_more}

-- bytes that end with a line have as many lines as line feeds
pub feeds_are_lines : (front : List ℕ) → EndsLine front → length (lines front) ≡ count_by is_line_feed front
feeds_are_lines front (inl e) = rw e refl
feeds_are_lines front (inr p) =
    let a = p.0 in
    let one : length (lines front) ≡ length (slice_split is_line_feed a) = ap length (ap lines p.1 ∙ lines_ended a) ∙ length-map (slice_split is_line_feed a) strip_carriage_return in
    one ∙ length-slice_split is_line_feed a ∙ sym (ap (count_by is_line_feed) p.1 ∙ sum_by-append (λ b. cond (is_line_feed b) 1 0) a (10 ∷ []))

-- a text that is cut after a line feed
pub cut_lines : (text front rest : List ℕ) → text ≡ front ++ rest → EndsLine front → AreFrontLines text front rest (count_by is_line_feed front)
cut_lines text front rest is ends = record {
  is = is;
  ends = inr ends;
  lines_are = ap lines is ∙ lines_append front rest ends;
  count_is = sym (feeds_are_lines front ends);
}

no_s_first : (x : ℕ) (parts : List (List ℕ)) → eqb x 115 ≡ false → All HasNoS parts → All HasNoS (onto_first x parts)
no_s_first x [] clear all = All-cons HasNoS (x ∷ []) [] (All-cons (λ b. eqb b 115 ≡ false) x [] clear (All-nil (λ b. eqb b 115 ≡ false))) (All-nil HasNoS)
no_s_first x (part ∷ parts) clear all =
    All-cons HasNoS (x ∷ part) parts (All-cons (λ b. eqb b 115 ≡ false) x part clear (All-head HasNoS part parts all)) (All-tail HasNoS part parts all)

no_s_parts : (p : ℕ → Bool) (xs : List ℕ) → HasNoS xs → All HasNoS (slice_split p xs)
no_s_parts p [] clear = All-cons HasNoS [] [] (All-nil (λ b. eqb b 115 ≡ false)) (All-nil HasNoS)
no_s_parts p (x ∷ xs) clear =
    let more = no_s_parts p xs (All-tail (λ b. eqb b 115 ≡ false) x xs clear) in
    ⊎_elim
    (λ (e : p x ≡ true). rw e (All-cons HasNoS [] (slice_split p xs) (All-nil (λ b. eqb b 115 ≡ false)) more))
    (λ (e : p x ≡ false). rw e (no_s_first x (slice_split p xs) (All-head (λ b. eqb b 115 ≡ false) x xs clear) more))
    (cases_Bool (p x))

no_s_stripped : (line : List ℕ) → HasNoS line → HasNoS (strip_carriage_return line)
no_s_stripped line clear =
    ⊎_elim
    (λ (e : eqb (get_or line (length line - 1) 0) 13 ≡ true). rw e (All-take (λ b. eqb b 115 ≡ false) (length line - 1) line clear))
    (λ (e : eqb (get_or line (length line - 1) 0) 13 ≡ false). rw e clear)
    (cases_Bool (eqb (get_or line (length line - 1) 0) 13))

no_s_lines : (parts : List (List ℕ)) → All HasNoS parts → All HasNoS (map strip_carriage_return parts)
no_s_lines [] all = All-nil HasNoS
no_s_lines (part ∷ parts) all =
    All-cons HasNoS (strip_carriage_return part) (map strip_carriage_return parts) (no_s_stripped part (All-head HasNoS part parts all)) (no_s_lines parts (All-tail HasNoS part parts all))

-- a field without an s is not section
no_head : (fields : List (List ℕ)) → All HasNoS fields → is_head fields ≡ false
no_head [] all = refl
no_head ([] ∷ rest) all = refl
no_head ((x ∷ xs) ∷ rest) all =
    let clear : eqb x 115 ≡ false = All-head (λ b. eqb b 115 ≡ false) x xs (All-head HasNoS (x ∷ xs) rest all) in
    rw clear refl

no_s_plain : (line : List ℕ) → HasNoS line → IsPlain line
no_s_plain line clear = no_head (fields_of line) (All-filter is_filled HasNoS (slice_split is_blank line) (no_s_parts is_blank line clear))

all_plain : (ls : List (List ℕ)) → All HasNoS ls → All IsPlain ls
all_plain [] all = All-nil IsPlain
all_plain (l ∷ ls) all = All-cons IsPlain l ls (no_s_plain l (All-head HasNoS l ls all)) (all_plain ls (All-tail HasNoS l ls all))

lines_plain : (front : List ℕ) → EndsLine front → HasNoS front → All IsPlain (lines front)
lines_plain front (inl e) clear = rw e (All-nil IsPlain)
lines_plain front (inr p) clear =
    let a = p.0 in
    let no_a : HasNoS a = subst HasNoS (ap (take (length a)) p.1 ∙ take-append_seam a (10 ∷ [])) (All-take (λ b. eqb b 115 ≡ false) (length a) front clear) in
    subst (All IsPlain) (sym (ap lines p.1 ∙ lines_ended a)) (all_plain (map strip_carriage_return (slice_split is_line_feed a)) (no_s_lines (slice_split is_line_feed a) (no_s_parts is_line_feed a no_a)))

-- lines that end before the first s
pub plain_cut : (text front rest : List ℕ) → text ≡ front ++ rest → EndsLine front → HasNoS front → ArePlainLines text front rest (count_by is_line_feed front)
plain_cut text front rest is ends clear = record {
  fronts = cut_lines text front rest is ends;
  plain = lines_plain front ends clear;
}

-- nothing stands in a part of nothing
none_in : (a b : List ℕ) → [] ≡ a ++ b → (a ≡ []) × (b ≡ [])
none_in a b e =
    let size : length a + length b ≡ 0 = sym (length-append a b) ∙ sym (ap length e) in
    (nil_from_length a (omega (arith, size)), nil_from_length b (omega (arith, size)))

joined_ends : (front rest f after : List ℕ) → rest ≡ f ++ after → (rest ≡ []) ⊎ EndsLine front → (after ≡ []) ⊎ EndsLine f → (after ≡ []) ⊎ EndsLine (front ++ f)
joined_ends front rest f after is (inl e) ends = inl (none_in f after (sym e ∙ is)).1
joined_ends front rest f after is (inr h) ends = ends_more front f after h ends

joined_lines : (front rest f after : List ℕ) → rest ≡ f ++ after → (rest ≡ []) ⊎ EndsLine front → lines (front ++ f) ≡ lines front ++ lines f
joined_lines front rest f after is (inl e) = lines_join front f (inl (none_in f after (sym e ∙ is)).0)
joined_lines front rest f after is (inr h) = lines_join front f (inr h)

-- plain lines, and more of them after
pub plain_join : (text front rest f after : List ℕ) (count more total : ℕ) → ArePlainLines text front rest count → ArePlainLines rest f after more → total ≡ count + more → ArePlainLines text (front ++ f) after total
plain_join text front rest f after count more total a b sum =
    let both = joined_lines front rest f after b.fronts.is a.fronts.ends in
    record {
      fronts = record {
        is = a.fronts.is ∙ ap (λ (xs : List ℕ). front ++ xs) b.fronts.is ∙ sym (append_assoc front f after);
        ends = joined_ends front rest f after b.fronts.is a.fronts.ends b.fronts.ends;
        lines_are = a.fronts.lines_are ∙ ap (λ (ls : List (List ℕ)). lines front ++ ls) b.fronts.lines_are ∙ sym (append_assoc (lines front) (lines f) (lines after)) ∙ ap (λ (ls : List (List ℕ)). ls ++ lines after) (sym both);
        count_is = omega (arith, sum, a.fronts.count_is, b.fronts.count_is, ap length both, length-append (lines front) (lines f));
      };
      plain = subst (All IsPlain) (sym both) (All-append IsPlain (lines front) (lines f) a.plain b.plain);
    }
