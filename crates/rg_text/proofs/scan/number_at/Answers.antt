use Rattle.std.proofs.Common.{◌≡◌, ℕ, ◌<◌, true, List, [], ◌∷◌, length, get_or, arith}
use Rattle.std.specs.List.{prefix_len}
use Rattle.rg_text.specs.declared.kind.Kind.TheVariants.{Number}
use Rattle.std.specs.Char.{is_ascii_digit}
use Rattle.rg_text.specs.Tokenization.{IsLongest}
use Rattle.rg_text.proofs.Longest.{longest_number}
use Rattle.rg_text.proofs.scan.number_at.Goals as goal

found : (bytes : List ℕ) → 0 < length bytes → is_ascii_digit (get_or bytes 0 0) ≡ true → IsLongest bytes (prefix_len is_ascii_digit bytes) Number
found [] lt d = absurd (omega arith)
found (b ∷ bs) lt d = longest_number b bs d

pub returns : goal.returns
returns c = rw c.digits_len.ensures (found c.args.bytes.now c.requires.some c.requires.digit)
