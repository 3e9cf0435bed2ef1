-- lines and fields from the front of a text
use Rattle.std.proofs.Common.{◌≡◌, ℕ, suc, ◌+◌, ◌<◌, Bool, true, false, not, eqb, List, [], ◌∷◌, length, take, drop, filter, refl, sym, ap, ◌∙◌, arith, ⊎_elim}
use Rattle.std.specs.List.{prefix_len, slice_split, onto_first}
use Rattle.std.specs.Str.Lines.{lines, lines_of_parts, strip_carriage_return}
use Rattle.std.proofs.lemmas.Bool.{cases_Bool, cond-true, cond-false, ne_eqb, eqb-true, eqb-false, cases_eq}
use Rattle.std.proofs.lemmas.List.{nil_from_length}
use Rattle.rg_hint_lines.specs.Text.{is_filled}

-- all but the first
abbrev pub rest_of : {A : Type 0} → List A → List A
rest_of [] = []
rest_of (x ∷ xs) = xs

module _ (p : ℕ → Bool) where
  -- the first part, and the parts after it
  pub split_front : (xs : List ℕ) → slice_split p xs ≡ take (prefix_len (λ b. not (p b)) xs) xs ∷ rest_of (slice_split p (drop (prefix_len (λ b. not (p b)) xs) xs))
  split_front [] = refl
  split_front (x ∷ xs) =
      let n = prefix_len (λ b. not (p b)) xs in
      let more : 1 + n ≡ suc n = omega arith in
      ⊎_elim
      (λ (e : p x ≡ true). rw e (rw e refl))
      (λ (e : p x ≡ false). rw (e, more) (ap (onto_first x) (split_front xs)))
      (cases_Bool (p x))

  -- nothing stands before a separator
  pub split_at_separator : (xs : List ℕ) → slice_split p (drop (prefix_len (λ b. not (p b)) xs) xs) ≡ [] ∷ rest_of (slice_split p (drop (prefix_len (λ b. not (p b)) xs) xs))
  split_at_separator [] = refl
  split_at_separator (x ∷ xs) =
      let n = prefix_len (λ b. not (p b)) xs in
      let more : 1 + n ≡ suc n = omega arith in
      ⊎_elim
      (λ (e : p x ≡ true). rw e (rw e refl))
      (λ (e : p x ≡ false). rw (e, more) (split_at_separator xs))
      (cases_Bool (p x))

  -- separators in front make no filled part
  pub parts_skip : (xs : List ℕ) → filter is_filled (slice_split p (drop (prefix_len p xs) xs)) ≡ filter is_filled (slice_split p xs)
  parts_skip [] = refl
  parts_skip (x ∷ xs) =
      let n = prefix_len p xs in
      let more : 1 + n ≡ suc n = omega arith in
      ⊎_elim
      (λ (e : p x ≡ true). rw (e, more) (parts_skip xs))
      (λ (e : p x ≡ false). rw e (rw e refl))
      (cases_Bool (p x))

  -- a filled part in front
  pub parts_take : (xs : List ℕ) → is_filled (take (prefix_len (λ b. not (p b)) xs) xs) ≡ true → filter is_filled (slice_split p xs) ≡ take (prefix_len (λ b. not (p b)) xs) xs ∷ filter is_filled (slice_split p (drop (prefix_len (λ b. not (p b)) xs) xs))
  parts_take xs h =
      let n = prefix_len (λ b. not (p b)) xs in
      let after = slice_split p (drop n xs) in
      let rest : filter is_filled (rest_of after) ≡ filter is_filled after = ap (filter is_filled) (sym (split_at_separator xs)) in
      ap (filter is_filled) (split_front xs) ∙ cond-true (is_filled (take n xs)) (take n xs ∷ filter is_filled (rest_of after)) (filter is_filled (rest_of after)) h
      ∙ ap (λ (t : List (List ℕ)). take n xs ∷ t) rest

-- what does not begin with a separator begins with a filled part
pub front_filled : (p : ℕ → Bool) (xs : List ℕ) → 0 < length xs → prefix_len p xs ≡ 0 → is_filled (take (prefix_len (λ b. not (p b)) xs) xs) ≡ true
front_filled p [] h e = absurd (omega arith)
front_filled p (x ∷ xs) h e =
    let n = prefix_len (λ b. not (p b)) xs in
    let more : 1 + n ≡ suc n = omega arith in
    ⊎_elim
    (λ (t : p x ≡ true). absurd (omega (arith, rw t at e)))
    (λ (f : p x ≡ false). rw (f, more) refl)
    (cases_Bool (p x))

pub filled_some : (xs : List ℕ) → is_filled xs ≡ true → 0 < length xs
filled_some [] e = cc
filled_some (x ∷ xs) e = omega arith

-- no separator stands after those that stand in front
pub none_after : (p : ℕ → Bool) (xs : List ℕ) → prefix_len p (drop (prefix_len p xs) xs) ≡ 0
none_after p [] = refl
none_after p (x ∷ xs) =
    let n = prefix_len p xs in
    let more : 1 + n ≡ suc n = omega arith in
    ⊎_elim
    (λ (e : p x ≡ true). rw (e, more) (none_after p xs))
    (λ (e : p x ≡ false). rw e (rw e refl))
    (cases_Bool (p x))

-- what `is_empty` says
pub nothing_left : (xs : List ℕ) (b : Bool) → b ≡ eqb (length xs) 0 → b ≡ true → xs ≡ []
nothing_left xs b e t = nil_from_length xs (eqb-true (length xs) 0 (sym e ∙ t))

pub some_left : (xs : List ℕ) (b : Bool) → b ≡ eqb (length xs) 0 → b ≡ false → 0 < length xs
some_left xs b e f =
    ⊎_elim (λ (z : length xs ≡ 0). absurd (eqb-false (length xs) 0 (sym e ∙ f) z)) (λ (z : length xs ≡ 0 → ⊥). omega (arith, z)) (cases_eq (length xs) 0)

-- a separator stands after the first part
pub separator_after : (p : ℕ → Bool) (xs : List ℕ) → 0 < length (drop (prefix_len (λ b. not (p b)) xs) xs) → slice_split p (drop (prefix_len (λ b. not (p b)) xs) xs) ≡ [] ∷ slice_split p (drop 1 (drop (prefix_len (λ b. not (p b)) xs) xs))
separator_after p [] h = absurd (omega arith)
separator_after p (x ∷ xs) h =
    let n = prefix_len (λ b. not (p b)) xs in
    let more : 1 + n ≡ suc n = omega arith in
    ⊎_elim
    (λ (e : p x ≡ true). rw e (rw e refl))
    (λ (e : p x ≡ false). rw (e, more) (separator_after p xs (rw (e, more) at h)))
    (cases_Bool (p x))

abbrev is_line_feed : ℕ → Bool
is_line_feed b = eqb b 10

lines_last : (x : List ℕ) (parts : List (List ℕ)) → 0 < length x → parts ≡ [] → lines_of_parts (x ∷ parts) ≡ x ∷ []
lines_last x parts h e =
    ap (λ (ps : List (List ℕ)). lines_of_parts (x ∷ ps)) e
    ∙ cond-false (eqb (length x) 0) [] (x ∷ []) (ne_eqb (length x) 0 (λ q. omega (arith, q, h)))

lines_next : (x y : List ℕ) (parts more : List (List ℕ)) → parts ≡ y ∷ more → lines_of_parts (x ∷ parts) ≡ strip_carriage_return x ∷ lines_of_parts parts
lines_next x y parts more e = rw e refl

-- the last line, after which no line feed stands
pub last_line : (text : List ℕ) → 0 < length (take (prefix_len (λ b. not (eqb b 10)) text) text) → drop (prefix_len (λ b. not (eqb b 10)) text) text ≡ [] → lines text ≡ take (prefix_len (λ b. not (eqb b 10)) text) text ∷ []
last_line text h e =
    let n = prefix_len (λ b. not (eqb b 10)) text in
    ap lines_of_parts (split_front is_line_feed text)
    ∙ lines_last (take n text) (rest_of (slice_split is_line_feed (drop n text))) h (ap (λ (ys : List ℕ). rest_of (slice_split is_line_feed ys)) e)

-- a line, and the lines after its line feed
pub next_line : (text : List ℕ) → 0 < length (drop (prefix_len (λ b. not (eqb b 10)) text) text) → lines text ≡ strip_carriage_return (take (prefix_len (λ b. not (eqb b 10)) text) text) ∷ lines (drop 1 (drop (prefix_len (λ b. not (eqb b 10)) text) text))
next_line text h =
    let n = prefix_len (λ b. not (eqb b 10)) text in
    let after = drop 1 (drop n text) in
    let m = prefix_len (λ b. not (eqb b 10)) after in
    ap lines_of_parts (split_front is_line_feed text)
    ∙ ap (λ (parts : List (List ℕ)). lines_of_parts (take n text ∷ rest_of parts)) (separator_after is_line_feed text h)
    ∙ lines_next (take n text) (take m after) (slice_split is_line_feed after) (rest_of (slice_split is_line_feed (drop m after))) (split_front is_line_feed after)
