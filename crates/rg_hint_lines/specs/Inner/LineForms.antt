-- What the form of a line says, once its literals and hints are read.
use Rattle.std.specs.Prelude.{ℕ, ℤ, Option, None, List, [], ◌∷◌}
use Rattle.rg_hint_lines.specs.declared.read.LineForm.{LineForm}
use Rattle.rg_hint_lines.specs.declared.read.LineForm.TheVariants.{PassedOver, HintLine, Unreadable}
use Rattle.rg_hint_lines.specs.Reading.{Reading, passed_over, hint_line, unreadable, hint_line_of}

-- what a line says, with its literals and hints
abbrev pub reading_as : LineForm → List ℤ → List ℕ → Reading
reading_as PassedOver literals hints = passed_over
reading_as (HintLine id) literals hints = hint_line id literals hints
reading_as Unreadable literals hints = unreadable

-- the hint line that the fields of a line are, where they are one
abbrev pub hint_line_in : List (List ℕ) → Option Reading
hint_line_in [] = None
hint_line_in (first ∷ rest) = hint_line_of first rest
