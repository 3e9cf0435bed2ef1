-- The text of the states at which a condition fails.
use Rattle.std.specs.Prelude.{ℕ, List, [], ◌∷◌, ◌++◌, Option, unwrap_or, codes, decimal}
use Rattle.std.specs.List.{flat_map}
use Rattle.std.specs.Option.{option_map_or}
use Rattle.rg_words.specs.Layout.{Word, names_of}
use Rattle.rg_words.specs.States.{Valuation}
use Rattle.rg_tree.specs.Programs.{nth}
use Rattle.rg_find.specs.declared.judgement.Judged.{Judged}
use Rattle.rg_find.specs.declared.judgement.Judged.TheVariants.{Holds, Fails, GaveUp, TooLarge}
use Rattle.rgc.specs.declared.proofs_found.Unproved.{Unproved}

-- a word's name and its value, with a space before them
abbrev pub value_text : List ℕ → ℕ → List ℕ
value_text name value = codes " " ++ (name ++ (codes "=" ++ decimal value))

-- each name with its value
abbrev pub values_text : List (List ℕ) → List ℕ → List ℕ
values_text (name ∷ names) (value ∷ values) = value_text name value ++ values_text names values
values_text [] values = []
values_text (name ∷ names) [] = []

-- a line with a title and each word's value
abbrev pub state_line : List ℕ → List Word → List ℕ → List ℕ
state_line title words values = title ++ (values_text (names_of words) values ++ codes "\n")

-- that the condition fails, before and, where there is a second state, after
abbrev pub failure_text : List Word → Valuation → Option Valuation → List ℕ
failure_text words first second =
    codes "fails\n"
    ++ (state_line (codes "before") words first.values
    ++ option_map_or (λ (s : Valuation). state_line (codes "after") words s.values) second [])

-- what is reported of a condition without a proof, after its name
abbrev pub judged_text : List Word → Judged → List ℕ
judged_text words (Fails first second) = codes " " ++ failure_text words first second
judged_text words GaveUp = codes " gave up\n"
judged_text words TooLarge = codes ": no proof within the 16777216 bytes of a file was found; a smaller condition may help\n"
judged_text words (Holds lines) = codes ": no proof within the 16777216 bytes of a file was found; a smaller condition may help\n"

-- the name of a number, from 1; no text where there is none
abbrev pub name_at : List (List ℕ) → ℕ → List ℕ
name_at names k = unwrap_or (nth names k) []

-- a condition without a proof: its number, its name, and what is reported of it
abbrev pub unproved_text : List Word → List (List ℕ) → Unproved → List ℕ
unproved_text words names u = codes "condition " ++ (decimal u.number ++ (codes " " ++ (name_at names u.number ++ judged_text words u.judged)))

-- conditions without a proof, of those with these names, one after another
abbrev pub failures_text : List Word → List (List ℕ) → List Unproved → List ℕ
failures_text words names = flat_map (unproved_text words names)
