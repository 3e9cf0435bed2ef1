-- The normal form of hint lines in a text.
use Rattle.std.specs.Prelude.{ℕ, List, ◌++◌, codes, decimal}
use Rattle.std.specs.List.{flat_map}
use Rattle.std.specs.Fmt.{signed_decimal}
use Rattle.rg_hint_lines.specs.Lines.{HintLine, Section}

-- the line's number, its literals, 0, its hints, and 0, with one space between them, and a line feed
abbrev pub hint_line_text : HintLine → List ℕ
hint_line_text line =
    ((decimal line.id ++ codes " ") ++ flat_map (λ x. signed_decimal x ++ codes " ") line.literals)
    ++ (codes "0 " ++ (flat_map (λ n. decimal n ++ codes " ") line.hints ++ codes "0\n"))

-- the lines of a section, one after another
abbrev pub section_text : Section → List ℕ
section_text s = flat_map hint_line_text s.lines
