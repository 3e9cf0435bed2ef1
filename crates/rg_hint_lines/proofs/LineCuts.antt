-- a text is cut after a line feed, and its lines with it
use Rattle.std.proofs.Common.{◌≡◌, ◌⊎◌, ℕ, ◌+◌, ◌<◌, true, false, not, eqb, List, [], ◌∷◌, ◌++◌, length, map, take, drop, suc, refl, sym, ap, ◌∙◌, inl, inr, ⊎_elim, subst, arith}
use Rattle.std.specs.Prelude.{All}
use Rattle.std.specs.List.{prefix_len, slice_split, onto_first}
use Rattle.std.specs.Str.Lines.{lines, lines_of_parts, strip_carriage_return}
use Rattle.std.proofs.lemmas.Bool.{cases_Bool, eqb-true}
use Rattle.std.proofs.lemmas.List.{append_assoc, append-nil, append_cancel_right, length-append, take-append-drop}
use Rattle.std.proofs.lemmas.List.Elements.{All-push}
use Rattle.rg_hint_lines.specs.LineEnds.{EndsLine, IsFrontLine}
use Rattle.rg_hint_lines.specs.Inner.Fronts.{is_line_feed}
use Rattle.rg_hint_lines.specs.Inner.SectionForms.{IsPlain, IsPlainLine, AreFrontLines, ArePlainLines}
use Rattle.rg_hint_lines.proofs.TextSteps.{split_front}

onto_append : (x : ℕ) (y : List ℕ) (s t parts : List (List ℕ)) → s ≡ y ∷ parts → onto_first x (s ++ t) ≡ onto_first x s ++ t
onto_append x y s t parts e = rw e refl

-- the parts on both sides of a line feed
split_both : (a b : List ℕ) → slice_split is_line_feed (a ++ 10 ∷ b) ≡ slice_split is_line_feed a ++ slice_split is_line_feed b
split_both [] b = refl
split_both (x ∷ a) b =
    ⊎_elim
    (λ (e : eqb x 10 ≡ true). rw e (ap (λ (parts : List (List ℕ)). [] ∷ parts) (split_both a b)))
    (λ (e : eqb x 10 ≡ false). rw e (ap (onto_first x) (split_both a b) ∙ onto_append x _ (slice_split is_line_feed a) (slice_split is_line_feed b) _ (split_front is_line_feed a)))
    (cases_Bool (eqb x 10))

-- each of the first parts is a line
lines_parts : (s t : List (List ℕ)) (y : List ℕ) (more : List (List ℕ)) → t ≡ y ∷ more → lines_of_parts (s ++ t) ≡ map strip_carriage_return s ++ lines_of_parts t
lines_parts [] t y more e = refl
lines_parts (x ∷ []) t y more e = rw e refl
lines_parts (x ∷ z ∷ s) t y more e = ap (λ (ls : List (List ℕ)). strip_carriage_return x ∷ ls) (lines_parts (z ∷ s) t y more e)

lines_cut : (a b : List ℕ) → lines (a ++ 10 ∷ b) ≡ map strip_carriage_return (slice_split is_line_feed a) ++ lines b
lines_cut a b =
    ap lines_of_parts (split_both a b) ∙ lines_parts (slice_split is_line_feed a) (slice_split is_line_feed b) _ _ (split_front is_line_feed b)

pub lines_ended : (a : List ℕ) → lines (a ++ 10 ∷ []) ≡ map strip_carriage_return (slice_split is_line_feed a)
lines_ended a = lines_cut a [] ∙ append-nil (map strip_carriage_return (slice_split is_line_feed a))

-- the lines of bytes that end with a line, and of those after them
pub lines_append : (a b : List ℕ) → EndsLine a → lines (a ++ b) ≡ lines a ++ lines b
lines_append a b (inl e) = rw e refl
lines_append a b (inr p) =
    let front = p.0 in
    let whole : a ++ b ≡ front ++ 10 ∷ b = ap (λ (xs : List ℕ). xs ++ b) p.1 ∙ append_assoc front (10 ∷ []) b in
    ap lines whole ∙ lines_cut front b ∙ ap (λ (ls : List (List ℕ)). ls ++ lines b) (sym (ap lines p.1 ∙ lines_ended front))

pub lines_join : (a b : List ℕ) → (b ≡ []) ⊎ EndsLine a → lines (a ++ b) ≡ lines a ++ lines b
lines_join a b (inl e) = rw e (ap lines (append-nil a) ∙ sym (append-nil (lines a)))
lines_join a b (inr h) = lines_append a b h

-- a last line
pub front_last : (text line rest : List ℕ) → rest ≡ [] → lines text ≡ line ∷ lines rest → IsFrontLine text line rest
front_last text line rest e are =
    let all : text ≡ text ++ rest = sym (append-nil text) ∙ ap (λ (xs : List ℕ). text ++ xs) (sym e) in
    record { front = text; is = all; ends = inl e; one = are ∙ ap (λ (xs : List ℕ). line ∷ lines xs) e }

-- a line before others
pub front_line : (text front line rest : List ℕ) → text ≡ front ++ rest → EndsLine front → lines text ≡ line ∷ lines rest → IsFrontLine text line rest
front_line text front line rest is ends are =
    let both : lines front ++ lines rest ≡ (line ∷ []) ++ lines rest = sym (ap lines is ∙ lines_append front rest ends) ∙ are in
    record { front = front; is = is; ends = inr ends; one = append_cancel_right (lines front) (line ∷ []) (lines rest) both }

-- what stands after the bytes before a line feed begins with it
line_feed_after : (xs : List ℕ) → 0 < length (drop (prefix_len (λ b. not (eqb b 10)) xs) xs) → drop (prefix_len (λ b. not (eqb b 10)) xs) xs ≡ 10 ∷ drop 1 (drop (prefix_len (λ b. not (eqb b 10)) xs) xs)
line_feed_after [] h = absurd (omega arith)
line_feed_after (x ∷ xs) h =
    let n = prefix_len (λ b. not (eqb b 10)) xs in
    let more : 1 + n ≡ suc n = omega arith in
    ⊎_elim
    (λ (e : eqb x 10 ≡ true). rw e (ap (λ (b : ℕ). b ∷ xs) (eqb-true x 10 e)))
    (λ (e : eqb x 10 ≡ false). rw (e, more) (line_feed_after xs (rw (e, more) at h)))
    (cases_Bool (eqb x 10))

-- a text by its first line feed
pub text_cut : (xs : List ℕ) → 0 < length (drop (prefix_len (λ b. not (eqb b 10)) xs) xs)
    → xs ≡ (take (prefix_len (λ b. not (eqb b 10)) xs) xs ++ 10 ∷ []) ++ drop 1 (drop (prefix_len (λ b. not (eqb b 10)) xs) xs)
text_cut xs h =
    let n = prefix_len (λ b. not (eqb b 10)) xs in
    sym (take-append-drop n xs) ∙ ap (λ (ys : List ℕ). take n xs ++ ys) (line_feed_after xs h) ∙ sym (append_assoc (take n xs) (10 ∷ []) (drop 1 (drop n xs)))

pub ends_more : (front f rest : List ℕ) → EndsLine front → (rest ≡ []) ⊎ EndsLine f → (rest ≡ []) ⊎ EndsLine (front ++ f)
ends_more front f rest h (inl e) = inl e
ends_more front f rest h (inr (inl e)) = inr (subst EndsLine (sym (ap (λ (xs : List ℕ). front ++ xs) e ∙ append-nil front)) h)
ends_more front f rest h (inr (inr p)) = inr (inr (front ++ p.0, ap (λ (xs : List ℕ). front ++ xs) p.1 ∙ sym (append_assoc front p.0 (10 ∷ []))))

ends_before : (front rest : List ℕ) → (rest ≡ []) ⊎ EndsLine front → 0 < length rest → EndsLine front
ends_before front rest (inl e) h = absurd (omega (arith, h, ap length e))
ends_before front rest (inr ends) h = ends

-- the lines with one more
more_lines : (front f line : List ℕ) → EndsLine front → lines f ≡ line ∷ [] → lines (front ++ f) ≡ lines front ++ line ∷ []
more_lines front f line ends one = lines_append front f ends ∙ ap (λ (ls : List (List ℕ)). lines front ++ ls) one

-- one more line
pub front_more : (text front rest line after : List ℕ) (count : ℕ) → AreFrontLines text front rest count → 0 < length rest → (l : IsFrontLine rest line after) → AreFrontLines text (front ++ l.front) after (count + 1)
front_more text front rest line after count are some l =
    let f = l.front in
    let ends = ends_before front rest are.ends some in
    let whole : text ≡ (front ++ f) ++ after = are.is ∙ ap (λ (xs : List ℕ). front ++ xs) l.is ∙ sym (append_assoc front f after) in
    let rest_lines : lines rest ≡ lines f ++ lines after = ap lines l.is ∙ lines_join f after l.ends in
    let all : lines text ≡ lines (front ++ f) ++ lines after =
    are.lines_are ∙ ap (λ (ls : List (List ℕ)). lines front ++ ls) rest_lines ∙ sym (append_assoc (lines front) (lines f) (lines after)) ∙ ap (λ (ls : List (List ℕ)). ls ++ lines after) (sym (lines_append front f ends)) in
    record {
      is = whole;
      ends = ends_more front f after ends l.ends;
      lines_are = all;
      count_is = omega (arith, are.count_is, ap length (more_lines front f line ends l.one), length-append (lines front) (line ∷ []));
    }

-- one more line that is no head
pub plain_more : (text front rest after : List ℕ) (count : ℕ) → ArePlainLines text front rest count → 0 < length rest → (l : IsPlainLine rest after) → ArePlainLines text (front ++ l.front.front) after (count + 1)
plain_more text front rest after count are some l =
    let ends = ends_before front rest are.fronts.ends some in
    record {
      fronts = front_more text front rest l.line after count are.fronts some l.front;
      plain = subst (All IsPlain) (sym (more_lines front l.front.front l.line ends l.front.one)) (All-push IsPlain (lines front) l.line are.plain l.plain);
    }
