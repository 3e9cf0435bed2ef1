-- the number of a head
use Rattle.std.proofs.Common.{◌≡◌, ℕ, false, ◌&&◌, List, Some, None}
use Rattle.std.specs.Str.{all_ascii_digits}
use Rattle.std.specs.Str.Parse.{digits_value}
use Rattle.std.proofs.lemmas.Bool.{cond-false, and_right}
use Rattle.rg_hint_lines.specs.Text.{is_filled}
use Rattle.rg_hint_lines.specs.Sections.{whole_number}

-- a field with a byte that is no digit writes no number
pub not_whole : (field : List ℕ) → all_ascii_digits field ≡ false → whole_number field ≡ None
not_whole field e = cond-false (is_filled field && all_ascii_digits field) (Some (digits_value 10 field)) None (and_right (is_filled field) (all_ascii_digits field) e)
