-- The sections of a proofs file: a head before each, which names a condition, and the lines up to the next head.
use Rattle.std.specs.Prelude.{ℕ, ◌+◌, ◌==◌, ◌||◌, ◌&&◌, nat_lt, nat_le, Bool, true, false, Option, Some, None, Result, Ok, Err, List, [], ◌∷◌, if◌then◌else◌, codes}
use Rattle.std.specs.Str.{bytes_eq, all_ascii_digits}
use Rattle.std.specs.Str.Lines.{lines}
use Rattle.std.specs.Str.Parse.{digits_value}
use Rattle.rg_words.specs.declared.refusal.Refusal.{Refusal}
use Rattle.rg_words.specs.declared.refusal.RefusalNumber.{RefusalNumber}
use Rattle.rg_words.specs.declared.refusal.RefusalNumber.TheVariants.{Unreadable, IdOrder, UnknownCondition}
use Rattle.rg_words.specs.declared.refusal.SourceFile.TheVariants.{Proofs}
use Rattle.rg_words.specs.Refusals.{refused_at}
use Rattle.rg_hint_lines.specs.Text.{is_filled, fields_of}
use Rattle.rg_hint_lines.specs.Reading.{is_passed_over}

-- a section: the number of its condition, the number of its first line in the file, and its lines
pub record SectionText : Type 0 where
  pub condition : ℕ
  pub first_line : ℕ
  pub lines : List (List ℕ)

-- a line of a head, its number in the file, and the lines between it and the next head
pub record Headed : Type 0 where
  pub head : List ℕ
  pub number : ℕ
  pub lines : List (List ℕ)

-- a line is meant as a head where its first field is section
abbrev pub is_head : List (List ℕ) → Bool
is_head [] = false
is_head (first ∷ rest) = bytes_eq first (codes "section")

-- one more line of a file, with its number: a head of the lines after it, or a line after the head before
abbrev pub with_line : Bool → List ℕ → ℕ → List (List ℕ) × List Headed → List (List ℕ) × List Headed
with_line true line number rest = ([], record { head = line; number = number; lines = rest.0 } ∷ rest.1)
with_line false line number rest = (line ∷ rest.0, rest.1)

-- the lines before the first head, and each head with the lines after it; the first line has this number
abbrev pub headed_lines : List (List ℕ) → ℕ → List (List ℕ) × List Headed
headed_lines [] number = ([], [])
headed_lines (line ∷ rest) number = with_line (is_head (fields_of line)) line number (headed_lines rest (number + 1))

-- the number, of any size, that a field writes by decimal digits, with any leading zeros
abbrev pub whole_number : List ℕ → Option ℕ
whole_number field = if is_filled field && all_ascii_digits field then Some (digits_value 10 field) else None

-- the number of a head: one field after its first
abbrev pub head_number : List (List ℕ) → Option ℕ
head_number (first ∷ number ∷ []) = whole_number number
head_number _ = None

-- the condition among so many that a head's number names, where the head before names the last one (0: no head is before); or what is at fault: first that it is no number, then that it does not rise, then that it names none
abbrev pub named_condition : ℕ → ℕ → Option ℕ → Result ℕ RefusalNumber
named_condition count last None = Err Unreadable
named_condition count last (Some k) =
    if nat_lt 0 last && nat_le k last then Err IdOrder else (if (k == 0) || nat_lt count k then Err UnknownCondition else Ok k)

-- one more section in front, or the refusal
abbrev pub with_section : SectionText → Result (List SectionText) Refusal → Result (List SectionText) Refusal
with_section section (Ok sections) = Ok (section ∷ sections)
with_section section (Err r) = Err r

-- the section of a head whose number names a condition, before those of the heads after it, which its condition decides; or its fault
abbrev pub then_sections : Result ℕ RefusalNumber → Headed → (ℕ → Result (List SectionText) Refusal) → Result (List SectionText) Refusal
then_sections (Ok k) h rest = with_section (record { condition = k; first_line = h.number + 1; lines = h.lines }) (rest k)
then_sections (Err fault) h rest = Err (refused_at fault Proofs h.number)

-- the sections of heads, over so many conditions, where the head before names the last one; or the first faulty head
abbrev pub sections_under : ℕ → ℕ → List Headed → Result (List SectionText) Refusal
sections_under count last [] = Ok []
sections_under count last (h ∷ heads) =
    then_sections (named_condition count last (head_number (fields_of h.head))) h (λ k. sections_under count k heads)

-- lines before the first head, the first of which has this number: those that are passed over decide nothing, and any other is at fault
abbrev pub after_front : ℕ → List (List ℕ) → Result (List SectionText) Refusal → Result (List SectionText) Refusal
after_front number [] sections = sections
after_front number (line ∷ rest) sections =
    if is_passed_over (fields_of line) then after_front (number + 1) rest sections else Err (refused_at Unreadable Proofs number)

-- the sections of a proofs file for so many conditions; or the first line at fault
abbrev pub sections_of : ℕ → List ℕ → Result (List SectionText) Refusal
sections_of count bytes = let parts = headed_lines (lines bytes) 1 in after_front 1 parts.0 (sections_under count 0 parts.1)
