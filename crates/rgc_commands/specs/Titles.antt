-- Names under which headers of C are printed.
use Rattle.std.specs.Prelude.{Bool, not, ◌&&◌, List, ℕ}
use Rattle.std.specs.Str.{bytes_eq}
use Rattle.rg_words.specs.Names.{is_word}
use Rattle.rg_c_values.specs.CNames.{c_name}
use Rattle.rg_c.specs.Functions.{has_role}

-- C and its headers have no use for the name
abbrev pub is_free : List ℕ → Bool
is_free name = bytes_eq (c_name name) name

-- it is a letter or `_`, and then letters, digits and `_`; no function's name could be taken for a part of it, and C has no use for it
abbrev pub is_title : List ℕ → Bool
is_title name = is_word name && not (has_role name) && is_free name
