-- the field in front of bytes, and the digits in front of it
use Rattle.std.proofs.Common.{◌≡◌, ℕ, suc, ◌+◌, ◌<◌, ◌≤◌, Bool, true, false, cond, not, eqb, leb, ◌&&◌, Option, Some, None, List, [], ◌∷◌, length, take, drop, get_or, refl, sym, ap, ◌∙◌, inl, inr, ⊎_elim, subst, arith}
use Rattle.std.specs.Prelude.{pos, neg_ℤ, option_map}
use Rattle.std.specs.Char.{is_ascii_digit}
use Rattle.std.specs.List.{prefix_len}
use Rattle.std.specs.Str.{all_ascii_digits}
use Rattle.std.specs.Str.Parse.{digits_value}
use Rattle.std.proofs.Math.Bool.{and-true}
use Rattle.std.proofs.lemmas.Bool.{cases_Bool, and_left, and_right, and_from, and_parts, cond-true, cond-false, le-leb, lt-leb, eqb-true, eqb-false, not-true, not-false}
use Rattle.std.proofs.lemmas.List.{take_all}
use Rattle.std.proofs.lemmas.Bool.Decides.{nat_tests}
use Rattle.std.proofs.lemmas.List.Folds.{length-prefix_len}
use Rattle.rg_words.specs.declared.limits.TheConstants.{MOST_HINT_NUMBER}
use Rattle.rg_hint_lines.specs.Text.{is_blank, is_filled, in_range, fields_of, number_in, positive, literal_in}
use Rattle.rg_hint_lines.specs.Inner.Fronts.{front_field, after_field, IsUpToMost, first_read}
use Rattle.rg_hint_lines.proofs.NumberSteps.{no_number}
use Rattle.rg_hint_lines.proofs.TextSteps.{parts_skip, parts_take, front_filled, none_after}

abbrev is_field : ℕ → Bool
is_field b = not (is_blank b)

-- a digit is no blank
digit_in_field : (b : ℕ) → is_ascii_digit b ≡ true → is_field b ≡ true
digit_in_field b e = grind (arith, nat_tests)

-- all of the digits in front are digits
pub digits_in_front : (xs : List ℕ) → all_ascii_digits (take (prefix_len is_ascii_digit xs) xs) ≡ true
digits_in_front [] = refl
digits_in_front (x ∷ xs) =
    let more : 1 + prefix_len is_ascii_digit xs ≡ suc (prefix_len is_ascii_digit xs) = omega arith in
    ⊎_elim
    (λ (e : is_ascii_digit x ≡ true). rw (e, more) (and_from (is_ascii_digit x) _ e (digits_in_front xs)))
    (λ (e : is_ascii_digit x ≡ false). rw e refl)
    (cases_Bool (is_ascii_digit x))

-- a byte that is no digit stands after the digits
pub more_than_digits : (xs : List ℕ) → prefix_len is_ascii_digit xs < length xs → all_ascii_digits xs ≡ false
more_than_digits [] h = absurd (omega arith)
more_than_digits (x ∷ xs) h =
    ⊎_elim
    (λ (e : is_ascii_digit x ≡ true). let rest : prefix_len is_ascii_digit xs < length xs = omega (arith, rw e at h) in and_right (is_ascii_digit x) (all_ascii_digits xs) (more_than_digits xs rest))
    (λ (e : is_ascii_digit x ≡ false). and_left (is_ascii_digit x) (all_ascii_digits xs) e)
    (cases_Bool (is_ascii_digit x))

-- where the digits end the field, they are the field
pub field_of_digits : (xs : List ℕ) → prefix_len is_field (drop (prefix_len is_ascii_digit xs) xs) ≡ 0 → prefix_len is_field xs ≡ prefix_len is_ascii_digit xs
field_of_digits [] h = refl
field_of_digits (x ∷ xs) h =
    let more : 1 + prefix_len is_ascii_digit xs ≡ suc (prefix_len is_ascii_digit xs) = omega arith in
    ⊎_elim
    (λ (e : is_ascii_digit x ≡ true). rw (e, digit_in_field x e) (ap (λ (n : ℕ). 1 + n) (field_of_digits xs (rw (e, more) at h))))
    (λ (e : is_ascii_digit x ≡ false). rw e (rw e at h))
    (cases_Bool (is_ascii_digit x))

-- where they don't, the field has a byte that is no digit
pub no_field_of_digits : (xs : List ℕ) → 0 < prefix_len is_field (drop (prefix_len is_ascii_digit xs) xs) → all_ascii_digits (front_field xs) ≡ false
no_field_of_digits [] h = absurd (omega arith)
no_field_of_digits (x ∷ xs) h =
    let more : 1 + prefix_len is_ascii_digit xs ≡ suc (prefix_len is_ascii_digit xs) = omega arith in
    let one : 1 + prefix_len is_field xs ≡ suc (prefix_len is_field xs) = omega arith in
    ⊎_elim
    (λ (e : is_ascii_digit x ≡ true). rw (digit_in_field x e, one) (and_right (is_ascii_digit x) _ (no_field_of_digits xs (rw (e, more) at h))))
    (λ (e : is_ascii_digit x ≡ false).
    ⊎_elim
    (λ (f : is_field x ≡ true). rw (f, one) (and_left (is_ascii_digit x) _ e))
    (λ (f : is_field x ≡ false). absurd (omega (arith, rw (e, f) at h)))
    (cases_Bool (is_field x)))
    (cases_Bool (is_ascii_digit x))

-- what is read in front of a line is what its first field is read as
pub first_in_front : {A : Type 0} (read : List ℕ → Option A) (line : List ℕ) → read [] ≡ None
    → first_read read (fields_of line) ≡ option_map (λ x. (x, fields_of (after_field (drop (prefix_len is_blank line) line)))) (read (front_field (drop (prefix_len is_blank line) line)))
first_in_front read line none =
    let after = drop (prefix_len is_blank line) line in
    ap (first_read read) (sym (parts_skip is_blank line)) ∙ by after (none_after is_blank line) where
      by : (xs : List ℕ) → prefix_len is_blank xs ≡ 0 → first_read read (fields_of xs) ≡ option_map (λ x. (x, fields_of (after_field xs))) (read (front_field xs))
      by [] first = rw none refl
      by (x ∷ xs) first = ap (first_read read) (parts_take is_blank (x ∷ xs) (front_filled is_blank (x ∷ xs) (omega arith) first))

-- a field of digits writes their number, where it is in range
pub number_of_digits : (field : List ℕ) (number : ℕ) → all_ascii_digits field ≡ true → IsUpToMost number (digits_value 10 field) → 0 < length field → number ≤ MOST_HINT_NUMBER → number_in field ≡ Some number
number_of_digits [] number all up some small = absurd (omega (arith, some))
number_of_digits (x ∷ xs) number all (inr h) some small = absurd (omega (arith, h.0, small))
number_of_digits (x ∷ xs) number all (inl e) some small =
    let within : leb (digits_value 10 (x ∷ xs)) MOST_HINT_NUMBER ≡ true = le-leb (digits_value 10 (x ∷ xs)) MOST_HINT_NUMBER (omega (arith, e, small)) in
    cond-true (is_filled (x ∷ xs) && all_ascii_digits (x ∷ xs)) (in_range (digits_value 10 (x ∷ xs))) None (and_from true (all_ascii_digits (x ∷ xs)) refl all)
    ∙ cond-true (leb (digits_value 10 (x ∷ xs)) MOST_HINT_NUMBER) (Some (digits_value 10 (x ∷ xs))) None within ∙ ap Some (sym e)

pub no_number_of_digits : (field : List ℕ) (number : ℕ) → IsUpToMost number (digits_value 10 field) → MOST_HINT_NUMBER < number → number_in field ≡ None
no_number_of_digits field number up large =
    let above : MOST_HINT_NUMBER < digits_value 10 field = ⊎_elim (λ (e : number ≡ digits_value 10 field). omega (arith, e, large)) (λ h. h.1) up in
    let out_of : in_range (digits_value 10 field) ≡ None = cond-false (leb (digits_value 10 field) MOST_HINT_NUMBER) (Some (digits_value 10 field)) None (lt-leb (digits_value 10 field) MOST_HINT_NUMBER above) in
    ⊎_elim
    (λ (e : (is_filled field && all_ascii_digits field) ≡ true). cond-true (is_filled field && all_ascii_digits field) (in_range (digits_value 10 field)) None e ∙ out_of)
    (λ (e : (is_filled field && all_ascii_digits field) ≡ false). cond-false (is_filled field && all_ascii_digits field) (in_range (digits_value 10 field)) None e)
    (cases_Bool (is_filled field && all_ascii_digits field))

-- the digits in front of bytes, and what stands after them
module _ (xs rest : List ℕ) (count : ℕ) (is_count : count ≡ prefix_len is_ascii_digit xs) (is_rest : rest ≡ drop count xs) where
  same_rest : rest ≡ drop (prefix_len is_ascii_digit xs) xs
  same_rest = is_rest ∙ ap (λ (n : ℕ). drop n xs) is_count

  -- a byte that is no blank stands after them
  pub other_front : not (eqb (prefix_len is_field rest) 0) ≡ true → number_in (front_field xs) ≡ None
  other_front e =
      let none = eqb-false (prefix_len is_field rest) 0 (not-true (eqb (prefix_len is_field rest) 0) e) in
      let some : 0 < prefix_len is_field rest = omega (arith, none) in
      sym (no_number (front_field xs) (no_field_of_digits xs (subst (λ (ys : List ℕ). 0 < prefix_len is_field ys) same_rest some)))

  module _ (ends : not (eqb (prefix_len is_field rest) 0) ≡ false) where
    pub same_field : prefix_len is_field xs ≡ count
    same_field =
        let none : prefix_len is_field rest ≡ 0 = eqb-true (prefix_len is_field rest) 0 (not-false (eqb (prefix_len is_field rest) 0) ends) in
        field_of_digits xs (ap (prefix_len is_field) (sym same_rest) ∙ none) ∙ sym is_count

    pub front_is : front_field xs ≡ take count xs
    front_is = ap (λ (n : ℕ). take n xs) same_field

    pub after_is : rest ≡ after_field xs
    after_is = is_rest ∙ ap (λ (n : ℕ). drop n xs) (sym same_field)

    pub no_digits : count ≡ 0 → number_in (front_field xs) ≡ None
    no_digits e = ap number_in (front_is ∙ ap (λ (n : ℕ). take n xs) e)

    pub too_great : (number : ℕ) → IsUpToMost number (digits_value 10 (take count xs)) → MOST_HINT_NUMBER < number → number_in (front_field xs) ≡ None
    too_great number up large = ap number_in front_is ∙ no_number_of_digits (take count xs) number up large

    pub front_number_is : (number : ℕ) → IsUpToMost number (digits_value 10 (take count xs)) → 0 < count → number ≤ MOST_HINT_NUMBER → number_in (front_field xs) ≡ Some number
    front_number_is number up some small =
        let all : all_ascii_digits (take count xs) ≡ true = ap (λ (n : ℕ). all_ascii_digits (take n xs)) is_count ∙ digits_in_front xs in
        let size : length (take count xs) ≡ count = ap (λ (n : ℕ). length (take n xs)) is_count ∙ length-prefix_len is_ascii_digit xs ∙ sym is_count in
        ap number_in front_is ∙ number_of_digits (take count xs) number all up (omega (arith, size, some)) small

-- digits alone
pub field_number_is : (xs : List ℕ) (count number : ℕ) → count ≡ prefix_len is_ascii_digit xs → (count < length xs → ⊥) → count ≤ length xs → IsUpToMost number (digits_value 10 (take count xs)) → 0 < length xs → number ≤ MOST_HINT_NUMBER → number_in xs ≡ Some number
field_number_is xs count number is_count whole within up some small =
    let all_of : take count xs ≡ xs = take_all count xs (omega (arith, whole)) in
    let all : all_ascii_digits xs ≡ true = ap all_ascii_digits (sym all_of) ∙ ap (λ (n : ℕ). all_ascii_digits (take n xs)) is_count ∙ digits_in_front xs in
    number_of_digits xs number all (subst (λ (ys : List ℕ). IsUpToMost number (digits_value 10 ys)) all_of up) some small

-- what the first field is read as
pub first_none : {A : Type 0} (read : List ℕ → Option A) (line : List ℕ) → read [] ≡ None → read (front_field (drop (prefix_len is_blank line) line)) ≡ None → first_read read (fields_of line) ≡ None
first_none read line none e = first_in_front read line none ∙ ap (option_map (λ x. (x, fields_of (after_field (drop (prefix_len is_blank line) line))))) e

pub first_some : {A : Type 0} (read : List ℕ → Option A) (line : List ℕ) → read [] ≡ None → (x : A) (rest : List ℕ)
    → (read (front_field (drop (prefix_len is_blank line) line)) ≡ Some x) × (rest ≡ after_field (drop (prefix_len is_blank line) line)) → first_read read (fields_of line) ≡ Some (x, fields_of rest)
first_some read line none x rest h =
    first_in_front read line none ∙ ap (option_map (λ y. (y, fields_of (after_field (drop (prefix_len is_blank line) line))))) h.0 ∙ ap (λ (ys : List ℕ). Some (x, fields_of ys)) (sym h.1)

-- a field that begins with a minus sign
negative_front : (xs : List ℕ) → get_or xs 0 0 ≡ 45 → literal_in (front_field xs) ≡ option_map (λ n. neg_ℤ (pos n)) (positive (number_in (front_field (drop 1 xs))))
negative_front [] e = absurd (omega (arith, e))
negative_front (x ∷ xs) e = let more : 1 + prefix_len is_field xs ≡ suc (prefix_len is_field xs) = omega arith in rw (e, more) refl

negative_after : (xs : List ℕ) → get_or xs 0 0 ≡ 45 → after_field (drop 1 xs) ≡ after_field xs
negative_after [] e = absurd (omega (arith, e))
negative_after (x ∷ xs) e = let more : 1 + prefix_len is_field xs ≡ suc (prefix_len is_field xs) = omega arith in rw (e, more) refl

-- another field
positive_front : (xs : List ℕ) → eqb (get_or xs 0 0) 45 ≡ false → literal_in (front_field xs) ≡ option_map (λ n. pos n) (number_in (front_field xs))
positive_front [] h = refl
positive_front (x ∷ xs) h =
    let more : 1 + prefix_len is_field xs ≡ suc (prefix_len is_field xs) = omega arith in
    ⊎_elim
    (λ (e : is_field x ≡ true). rw (e, more) (rw h refl))
    (λ (e : is_field x ≡ false). rw e refl)
    (cases_Bool (is_field x))

-- the number after a sign, and the literal
module _ (xs : List ℕ) (sign : ℕ) (is : sign ≡ cond (eqb (get_or xs 0 0) 45) 1 0) where
  abbrev pub signed_number : Option ℕ
  signed_number = number_in (front_field (drop sign xs))

  sign_one : eqb (get_or xs 0 0) 45 ≡ true → sign ≡ 1
  sign_one e = is ∙ ap (λ (b : Bool). cond b 1 0) e

  sign_none : eqb (get_or xs 0 0) 45 ≡ false → sign ≡ 0
  sign_none e = is ∙ ap (λ (b : Bool). cond b 1 0) e

  literal_is : literal_in (front_field xs) ≡ cond (eqb sign 1) (option_map (λ n. neg_ℤ (pos n)) (positive signed_number)) (option_map (λ n. pos n) signed_number)
  literal_is =
      ⊎_elim
      (λ (e : eqb (get_or xs 0 0) 45 ≡ true). rw (sign_one e) (negative_front xs (eqb-true (get_or xs 0 0) 45 e)))
      (λ (e : eqb (get_or xs 0 0) 45 ≡ false). rw (sign_none e) (positive_front xs e))
      (cases_Bool (eqb (get_or xs 0 0) 45))

  pub signed_after : after_field (drop sign xs) ≡ after_field xs
  signed_after =
      ⊎_elim
      (λ (e : eqb (get_or xs 0 0) 45 ≡ true). rw (sign_one e) (negative_after xs (eqb-true (get_or xs 0 0) 45 e)))
      (λ (e : eqb (get_or xs 0 0) 45 ≡ false). rw (sign_none e) refl)
      (cases_Bool (eqb (get_or xs 0 0) 45))

  pub literal_none : number_in (front_field (drop sign xs)) ≡ None → literal_in (front_field xs) ≡ None
  literal_none none =
      literal_is ∙ by (eqb sign 1) where
        by : (b : Bool) → cond b (option_map (λ n. neg_ℤ (pos n)) (positive signed_number)) (option_map (λ n. pos n) signed_number) ≡ None
        by true = ap (λ (o : Option ℕ). option_map (λ n. neg_ℤ (pos n)) (positive o)) none
        by false = ap (option_map (λ n. pos n)) none

  pub literal_zero : (n : ℕ) → number_in (front_field (drop sign xs)) ≡ Some n → (eqb n 0 && eqb sign 1) ≡ true → literal_in (front_field xs) ≡ None
  literal_zero n some e =
      let parts = and_parts (eqb n 0) (eqb sign 1) e in
      literal_is ∙ ap (λ (b : Bool). cond b (option_map (λ m. neg_ℤ (pos m)) (positive signed_number)) (option_map (λ m. pos m) signed_number)) parts.1
      ∙ ap (λ (o : Option ℕ). option_map (λ m. neg_ℤ (pos m)) (positive o)) some
      ∙ ap (λ (b : Bool). option_map (λ m. neg_ℤ (pos m)) (cond b None (Some n))) parts.0

  pub literal_some : (n : ℕ) → number_in (front_field (drop sign xs)) ≡ Some n → (eqb n 0 && eqb sign 1) ≡ false → literal_in (front_field xs) ≡ Some (cond (eqb sign 1) (neg_ℤ (pos n)) (pos n))
  literal_some n some e =
      literal_is ∙ by (eqb sign 1) e where
        by : (b : Bool) → (eqb n 0 && b) ≡ false → cond b (option_map (λ m. neg_ℤ (pos m)) (positive signed_number)) (option_map (λ m. pos m) signed_number) ≡ Some (cond b (neg_ℤ (pos n)) (pos n))
        by true f = ap (λ (o : Option ℕ). option_map (λ m. neg_ℤ (pos m)) (positive o)) some ∙ ap (λ (b : Bool). option_map (λ m. neg_ℤ (pos m)) (cond b None (Some n))) (sym (and-true (eqb n 0)) ∙ f)
        by false f = ap (option_map (λ m. pos m)) some
