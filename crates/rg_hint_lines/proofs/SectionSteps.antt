-- a proofs file, line by line and head by head
use Rattle.std.proofs.Common.{◌≡◌, ℕ, ◌+◌, ◌<◌, ◌≤◌, Bool, true, false, Result, Ok, Err, List, [], ◌∷◌, ◌++◌, length, map, drop, refl, sym, ap, ◌∙◌, ⊎_elim, arith}
use Rattle.std.specs.Prelude.{All}
use Rattle.std.specs.Str.Lines.{lines}
use Rattle.std.proofs.lemmas.Bool.{cases_Bool}
use Rattle.std.proofs.lemmas.List.{append_assoc, append-nil, map-append}
use Rattle.std.proofs.lemmas.List.Elements.{All-head, All-tail, All-push, All-weaker}
use Rattle.std.proofs.lemmas.List.Quantifiers.{all_pairs_push}
use Rattle.std.proofs.Math.Seq.{drop-append_seam}
use Rattle.rg_words.specs.declared.refusal.Refusal.{Refusal}
use Rattle.rg_words.specs.declared.refusal.RefusalNumber.{RefusalNumber}
use Rattle.rg_hint_lines.specs.declared.sections.SectionBytes.{SectionBytes}
use Rattle.rg_hint_lines.specs.Text.{fields_of}
use Rattle.rg_hint_lines.specs.Sections.{SectionText, Headed, is_head, with_line, headed_lines, head_number, named_condition, with_section, then_sections, sections_under, after_front, sections_of}
use Rattle.rg_hint_lines.specs.Located.{text_of, AreRising}
use Rattle.rg_hint_lines.specs.Inner.SectionForms.{IsPlain, BeginsWithHead, AreLinesBeforeHead, sections_after}

-- sections in front of what the rest of a text gives
abbrev pub with_sections : List SectionText → Result (List SectionText) Refusal → Result (List SectionText) Refusal
with_sections front (Ok found) = Ok (front ++ found)
with_sections front (Err r) = Err r

with_sections_more : (front : List SectionText) (section : SectionText) (rest : Result (List SectionText) Refusal) → with_sections front (with_section section rest) ≡ with_sections (front ++ section ∷ []) rest
with_sections_more front section (Ok found) = ap Ok (sym (append_assoc front (section ∷ []) found))
with_sections_more front section (Err r) = refl

-- lines that are no heads, in front of others
headed_plain : (front rest : List (List ℕ)) (number : ℕ) → All IsPlain front → headed_lines (front ++ rest) number ≡ (front ++ (headed_lines rest (number + length front)).0, (headed_lines rest (number + length front)).1)
headed_plain [] rest number all = let e : number ≡ number + length {A = List ℕ} [] = omega arith in ap (headed_lines rest) e
headed_plain (line ∷ front) rest number all =
    let plain : is_head (fields_of line) ≡ false = All-head IsPlain line front all in
    let more = headed_plain front rest (number + 1) (All-tail IsPlain line front all) in
    let same : number + 1 + length front ≡ number + length (line ∷ front) = omega arith in
    ap (λ (b : Bool). with_line b line number (headed_lines (front ++ rest) (number + 1))) plain
    ∙ ap (with_line false line number) more
    ∙ ap (λ (n : ℕ). (line ∷ (front ++ (headed_lines rest n).0), (headed_lines rest n).1)) same

-- the lines before the first head, and the heads after them
pub before_head : (text front : List ℕ) (count : ℕ) (a : AreLinesBeforeHead text front count) (number : ℕ) → headed_lines (lines text) number ≡ (lines front, (headed_lines (lines a.rest) (number + count)).1)
before_head text front count a number =
    let n = number + length (lines front) in
    let same : n ≡ number + count = omega (arith, a.are.fronts.count_is) in
    let heads : ℕ → List Headed = λ m. (headed_lines (lines a.rest) m).1 in
    ap (λ (ls : List (List ℕ)). headed_lines ls number) a.are.fronts.lines_are
    ∙ headed_plain (lines front) (lines a.rest) number a.are.plain
    ∙ ap (λ (xs : List (List ℕ)). (lines front ++ xs, heads n)) (a.begins n)
    ∙ ap (λ (ys : List (List ℕ)). (ys, heads n)) (append-nil (lines front))
    ∙ ap (λ (m : ℕ). (lines front, heads m)) same

-- a text that begins with a head has one on its first line
head_first : (text line : List ℕ) (rest : List (List ℕ)) → lines text ≡ line ∷ rest → BeginsWithHead text → is_head (fields_of line) ≡ true
head_first text line rest are begins =
    ⊎_elim (λ e. e)
    (λ (e : is_head (fields_of line) ≡ false).
    let plain = sym (ap (λ (ls : List (List ℕ)). (headed_lines ls 0).0) are ∙ ap (λ (b : Bool). (with_line b line 0 (headed_lines rest 1)).0) e) ∙ begins 0 in
    absurd (omega (arith, ap length plain)))
    (cases_Bool (is_head (fields_of line)))

pub rest_is : (text front rest : List ℕ) → text ≡ front ++ rest → drop (length front) text ≡ rest
rest_is text front rest e = ap (drop (length front)) e ∙ drop-append_seam front rest

module _ (count last number : ℕ) (items : List SectionBytes) (text head after : List ℕ) (whole : Result (List SectionText) Refusal) (is_text : lines text ≡ head ∷ lines after) (begins : BeginsWithHead text) (found : with_sections (map text_of items) (sections_under count last (headed_lines (lines text) number).1) ≡ whole) where
  headed : (headed_lines (lines text) number).1 ≡ record { head = head; number = number; lines = (headed_lines (lines after) (number + 1)).0 } ∷ (headed_lines (lines after) (number + 1)).1
  headed =
      ap (λ (ls : List (List ℕ)). (headed_lines ls number).1) is_text
      ∙ ap (λ (b : Bool). (with_line b head number (headed_lines (lines after) (number + 1))).1) (head_first text head (lines after) is_text begins)

  -- one more section
  pub one_section : (k : ℕ) → named_condition count last (head_number (fields_of head)) ≡ Ok k → (bytes rest : List ℕ) (n : ℕ) (a : AreLinesBeforeHead after bytes n) → rest ≡ a.rest → (s : SectionBytes) → text_of s ≡ record { condition = k; first_line = number + 1; lines = lines bytes }
      → with_sections (map text_of (items ++ s ∷ [])) (sections_under count k (headed_lines (lines rest) (number + 1 + n)).1) ≡ whole
  one_section k named bytes rest n a is_rest s is_s =
      let front = map text_of items in
      let p = headed_lines (lines after) (number + 1) in
      let heads = (headed_lines (lines a.rest) (number + 1 + n)).1 in
      let added : SectionText = record { condition = k; first_line = number + 1; lines = lines bytes } in
      let step : with_sections front (sections_under count last (headed_lines (lines text) number).1) ≡ with_sections front (with_section added (sections_under count k heads)) =
      ap (λ (hs : List Headed). with_sections front (sections_under count last hs)) headed
      ∙ ap (λ (r : Result ℕ RefusalNumber). with_sections front (then_sections r (record { head = head; number = number; lines = p.0 }) (λ j. sections_under count j p.1))) named
      ∙ ap (λ (t : List (List ℕ) × List Headed). with_sections front (with_section (record { condition = k; first_line = number + 1; lines = t.0 }) (sections_under count k t.1))) (before_head after bytes n a (number + 1)) in
      ap (λ (xs : List ℕ). with_sections (map text_of (items ++ s ∷ [])) (sections_under count k (headed_lines (lines xs) (number + 1 + n)).1)) is_rest
      ∙ ap (λ (ss : List SectionText). with_sections ss (sections_under count k heads)) (map-append text_of items (s ∷ []) ∙ ap (λ (t : SectionText). front ++ t ∷ []) is_s)
      ∙ sym (with_sections_more front added (sections_under count k heads)) ∙ sym step ∙ found

-- the sections of a file after the lines before its first head
pub whole_file : (count : ℕ) (proofs front rest : List ℕ) (n : ℕ) (a : AreLinesBeforeHead proofs front n) → rest ≡ a.rest → sections_of count proofs ≡ after_front 1 (lines front) (sections_after count (n + 1) rest)
whole_file count proofs front rest n a is_rest =
    let same : 1 + n ≡ n + 1 = omega arith in
    ap (λ (t : List (List ℕ) × List Headed). after_front 1 t.0 (sections_under count 0 t.1)) (before_head proofs front n a 1)
    ∙ ap (λ (m : ℕ). after_front 1 (lines front) (sections_after count m a.rest)) same
    ∙ ap (λ (xs : List ℕ). after_front 1 (lines front) (sections_after count (n + 1) xs)) (sym is_rest)

-- a section of a greater condition
pub rising_more : (items : List SectionBytes) (s : SectionBytes) (last : ℕ) → AreRising items → All (λ (t : SectionBytes). (0 < t.condition) × (t.condition ≤ last)) items → last < s.condition → AreRising (items ++ s ∷ [])
rising_more items s last rising below above = all_pairs_push (λ (a b : SectionBytes). a.condition < b.condition) items s rising (λ k d small. omega (arith, (below k d small).1, above))

pub below_more : (items : List SectionBytes) (s : SectionBytes) (last : ℕ) → All (λ (t : SectionBytes). (0 < t.condition) × (t.condition ≤ last)) items → last < s.condition → All (λ (t : SectionBytes). (0 < t.condition) × (t.condition ≤ s.condition)) (items ++ s ∷ [])
below_more items s last below above =
    All-push (λ (t : SectionBytes). (0 < t.condition) × (t.condition ≤ s.condition)) items s
    (All-weaker (λ (t : SectionBytes). (0 < t.condition) × (t.condition ≤ last)) (λ (t : SectionBytes). (0 < t.condition) × (t.condition ≤ s.condition)) (λ t h. (h.0, omega (arith, h.1, above))) items below)
    (omega (arith, above), omega arith)
