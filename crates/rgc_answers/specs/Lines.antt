-- A JSON value as a line.
use Rattle.std.specs.Prelude.{ℕ, List, ◌++◌, codes}
use Rattle.serde_json.specs.Data.{Data}
use Rattle.serde_json.specs.Written.{compact_text}

-- the value's text with no space, and a line end
abbrev pub json_line : Data → List ℕ
json_line d = compact_text d ++ codes "\n"
