-- a text, number by number and line by line
use Rattle.std.proofs.Common.{◌≡◌, ℕ, ◌+◌, ◌<◌, ◌≤◌, ℤ, Option, Some, None, Result, Ok, Err, List, [], ◌∷◌, ◌++◌, ltb, true, refl, sym, ap, ◌∙◌, arith}
use Rattle.std.specs.Prelude.{All}
use Rattle.std.proofs.lemmas.Bool.{lt-ltb}
use Rattle.std.proofs.lemmas.List.{append_assoc}
use Rattle.std.proofs.lemmas.List.Elements.{All-push, All-weaker}
use Rattle.rg_words.specs.declared.refusal.Refusal.{Refusal}
use Rattle.rg_hint_lines.specs.Lines.{HintLine}
use Rattle.rg_hint_lines.specs.Text.{fields_of}
use Rattle.rg_hint_lines.specs.Reading.{Reading, passed_over, hint_line, reading_of, with_first, then_rest, hint_lines_of}

-- numbers in front of what the rest of a line gives
abbrev pub after : {A : Type 0} → List A → Option (List A × List (List ℕ)) → Option (List A × List (List ℕ))
after front None = None
after front (Some r) = Some (front ++ r.0, r.1)

-- lines in front of what the rest of a text gives
abbrev pub with_front : List HintLine → Result (List HintLine) Refusal → Result (List HintLine) Refusal
with_front front (Ok found) = Ok (front ++ found)
with_front front (Err r) = Err r

with_front_more : (front : List HintLine) (line : HintLine) (rest : Result (List HintLine) Refusal) → with_front front (with_first line rest) ≡ with_front (front ++ line ∷ []) rest
with_front_more front line (Ok found) = ap Ok (sym (append_assoc front (line ∷ []) found))
with_front_more front line (Err r) = refl

module _ (front : List HintLine) (text rest : List (List ℕ)) (line : List ℕ) (number last : ℕ) (whole : Result (List HintLine) Refusal) (is_text : text ≡ line ∷ rest) (found : with_front front (hint_lines_of text number last) ≡ whole) where
  -- a line that says nothing
  pub line_passed : reading_of (fields_of line) ≡ passed_over → with_front front (hint_lines_of rest (number + 1) last) ≡ whole
  line_passed reading =
      ap (λ (r : Reading). with_front front (then_rest r number last (λ greatest. hint_lines_of rest (number + 1) greatest))) (sym reading)
      ∙ ap (λ (t : List (List ℕ)). with_front front (hint_lines_of t number last)) (sym is_text) ∙ found

  -- one more hint line
  pub line_added : (id : ℕ) (literals : List ℤ) (hints : List ℕ) → reading_of (fields_of line) ≡ hint_line id literals hints → last < id → with_front (front ++ record { id = id; text_line = number; literals = literals; hints = hints } ∷ []) (hint_lines_of rest (number + 1) id) ≡ whole
  line_added id literals hints reading above =
      let added : HintLine = record { id = id; text_line = number; literals = literals; hints = hints } in
      let rises : ltb last id ≡ true = lt-ltb last id above in
      sym (with_front_more front added (hint_lines_of rest (number + 1) id))
      ∙ rw rises at (ap (λ (r : Reading). with_front front (then_rest r number last (λ greatest. hint_lines_of rest (number + 1) greatest))) (sym reading)
      ∙ ap (λ (t : List (List ℕ)). with_front front (hint_lines_of t number last)) (sym is_text) ∙ found)

pub below_more : (front : List HintLine) (line : HintLine) (last : ℕ) → All (λ (l : HintLine). l.id ≤ last) front → last < line.id → All (λ (l : HintLine). l.id ≤ line.id) (front ++ line ∷ [])
below_more front line last all above =
    All-push (λ (l : HintLine). l.id ≤ line.id) front line (All-weaker (λ (l : HintLine). l.id ≤ last) (λ (l : HintLine). l.id ≤ line.id) (λ l h. omega arith) front all) (omega arith)
