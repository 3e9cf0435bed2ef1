-- What the lines of a proofs text say.
use Rattle.std.specs.Prelude.{◌≡◌, ◌⊎◌, ℕ, ◌+◌, ◌==◌, ◌||◌, ◌&&◌, not, nat_lt, ℤ, pos, negsuc, Bool, true, false, Option, Some, None, option_and_then, unwrap_or, Result, Ok, Err, List, [], ◌∷◌, if◌then◌else◌, slice_index, codes}
use Rattle.std.specs.Str.{bytes_eq}
use Rattle.std.specs.Str.Lines.{lines}
use Rattle.rg_words.specs.declared.refusal.Refusal.{Refusal}
use Rattle.rg_words.specs.declared.refusal.RefusalNumber.TheVariants.{Unreadable, IdOrder}
use Rattle.rg_words.specs.declared.refusal.SourceFile.TheVariants.{Proofs}
use Rattle.rg_words.specs.Refusals.{no_memory, refused_at}
use Rattle.rg_hint_lines.specs.Lines.{HintLine, Section}
use Rattle.rg_hint_lines.specs.Text.{fields_of, number_in, positive, literal_in}

-- what a line of the text says: nothing, or a hint line with its number, literals and hints; or it has no known form
pub data Reading : Type 0 where
  passed_over : Reading
  hint_line : ℕ → List ℤ → List ℕ → Reading
  unreadable : Reading

infixl 10 ◌>>=◌
-- what f gives for the value, where there is one
abbrev pub ◌>>=◌ : {A B : Type 0} → Option A → (A → Option B) → Option B
o >>= f = option_and_then f o

-- the number is 0
abbrev pub is_zero : ℤ → Bool
is_zero (pos n) = n == 0
is_zero (negsuc n) = false

-- the numbers before the first 0, and the fields after it, where all fields before it are numbers
abbrev pub up_to_zero : {A : Type 0} → (List ℕ → Option A) → (A → Bool) → List (List ℕ) → Option (List A × List (List ℕ))
up_to_zero number zero [] = None
up_to_zero number zero (field ∷ fields) =
    number field >>= λ x. if zero x then Some ([], fields) else (up_to_zero number zero fields >>= λ r. Some (x ∷ r.0, r.1))

-- the literals before the first 0, and the fields after it
abbrev pub literals_of : List (List ℕ) → Option (List ℤ × List (List ℕ))
literals_of fields = up_to_zero literal_in is_zero fields

-- the hints before the first 0, and the fields after it
abbrev pub hints_of : List (List ℕ) → Option (List ℕ × List (List ℕ))
hints_of fields = up_to_zero number_in (λ n. n == 0) fields

-- the second field is d
abbrev pub is_removal : List (List ℕ) → Bool
is_removal [] = false
is_removal (second ∷ rest) = bytes_eq second (codes "d")

-- a line is passed over where it has no fields, or the first begins with c, or the second is d and the first is not section
abbrev pub is_passed_over : List (List ℕ) → Bool
is_passed_over [] = true
is_passed_over (first ∷ rest) = (slice_index first 0 == 99) || (is_removal rest && not (bytes_eq first (codes "section")))

-- nothing stands after the last 0
abbrev pub ended : Reading → List (List ℕ) → Option Reading
ended reading [] = Some reading
ended reading (field ∷ fields) = None

-- a number, literals, 0, hints, 0
abbrev pub hint_line_of : List ℕ → List (List ℕ) → Option Reading
hint_line_of first rest = do
  id ← positive (number_in first)
  literals ← literals_of rest
  hints ← hints_of literals.1
  ended (hint_line id literals.0 hints.0) hints.1

-- what a line with these fields says
abbrev pub reading_of : List (List ℕ) → Reading
reading_of [] = passed_over
reading_of (first ∷ rest) = if is_passed_over (first ∷ rest) then passed_over else unwrap_or (hint_line_of first rest) unreadable

-- one more line in front
abbrev pub with_first : HintLine → Result (List HintLine) Refusal → Result (List HintLine) Refusal
with_first line (Ok found) = Ok (line ∷ found)
with_first line (Err r) = Err r

-- a line of the text with this number before the rest, of which the greatest number before it decides: a line that has no known form, or a number that does not rise, is a fault
abbrev pub then_rest : Reading → ℕ → ℕ → (ℕ → Result (List HintLine) Refusal) → Result (List HintLine) Refusal
then_rest passed_over number last rest = rest last
then_rest unreadable number last rest = Err (refused_at Unreadable Proofs number)
then_rest (hint_line id literals hints) number last rest =
    if nat_lt last id
    then with_first (record { id = id; text_line = number; literals = literals; hints = hints }) (rest id)
    else Err (refused_at IdOrder Proofs number)

-- the hint lines of lines of a text, the first of which has this number, where the greatest number before is this one; or the first fault
abbrev pub hint_lines_of : List (List ℕ) → ℕ → ℕ → Result (List HintLine) Refusal
hint_lines_of [] number last = Ok []
hint_lines_of (line ∷ rest) number last =
    then_rest (reading_of (fields_of line)) number last (λ greatest. hint_lines_of rest (number + 1) greatest)

-- a section of these lines over so many given clauses, or the refusal
abbrev pub section_with : ℕ → Result (List HintLine) Refusal → Result Section Refusal
section_with given (Ok found) = Ok (record { given = given; lines = found })
section_with given (Err r) = Err r

-- the section that a text spells over so many given clauses, or the first faulty line; the first line has this number
abbrev pub section_of : ℕ → ℕ → List ℕ → Result Section Refusal
section_of first_line given bytes = section_with given (hint_lines_of (lines bytes) first_line given)

-- why a text is refused: for want of memory, or for its first faulty line
abbrev pub IsReadingRefusal : Result Section Refusal → Refusal → Type 0
IsReadingRefusal reading r = (r ≡ no_memory) ⊎ (reading ≡ Err r)
