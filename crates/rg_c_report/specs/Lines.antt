-- The line that is printed for a line of a text.
use Rattle.std.specs.Prelude.{ℕ, List, length, nat_eq, slice_index_or, if◌then◌else◌}

-- that of a list, which has one for each line of the text, after a first one for none; the line itself, where the list is empty
abbrev pub line_shown : List ℕ → ℕ → ℕ
line_shown lines row = if nat_eq (length lines) 0 then row else slice_index_or lines row 0
