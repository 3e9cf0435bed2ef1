-- Hint lines from their parts, which the code keeps in lists of their own.
use Rattle.std.specs.Prelude.{◌≡◌, ℕ, ℤ, List, [], ◌∷◌, length}
use Rattle.rg_hint_lines.specs.declared.lines.Head.{Head}
use Rattle.rg_hint_lines.specs.Lines.{HintLine, IsSection}

-- lines from their parts
abbrev pub zipped : List Head → List (List ℤ) → List (List ℕ) → List HintLine
zipped [] literals hints = []
zipped (head ∷ heads) [] hints = []
zipped (head ∷ heads) (clause ∷ literals) [] = []
zipped (head ∷ heads) (clause ∷ literals) (row ∷ hints) =
    record { id = head.id; text_line = head.text_line; literals = clause; hints = row } ∷ zipped heads literals hints

-- the parts are as many, and make a section
pub record IsZipped (given : ℕ) (heads : List Head) (literals : List (List ℤ)) (hints : List (List ℕ)) : Type 0 where
  pub literals_fit : length literals ≡ length heads
  pub hints_fit : length hints ≡ length heads
  pub section : IsSection (record { given = given; lines = zipped heads literals hints })
