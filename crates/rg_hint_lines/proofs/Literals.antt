-- Literals in 32 bits.
use Rattle.std.proofs.Common.{◌≡◌, ◌≤◌, ℤ, to_z, of_z, w32, arith}
use Rattle.std.proofs.lemmas.Int.{to_z-of_z, fits_signed_from_abs}
use Rattle.std.specs.Int.RustNames.{unsigned_abs}
use Rattle.rg_words.specs.declared.limits.TheConstants.{MOST_HINT_NUMBER}
use Rattle.rg_hint_lines.specs.Lines.{IsHintLiteral}

pub literal_back : (x : ℤ) → IsHintLiteral x → to_z w32 (of_z w32 x) ≡ x
literal_back x h = to_z-of_z w32 x (fits_signed_from_abs w32 x (omega (arith, h.within)))

pub within_back : (x : ℤ) → unsigned_abs x ≤ MOST_HINT_NUMBER → to_z w32 (of_z w32 x) ≡ x
within_back x h = to_z-of_z w32 x (fits_signed_from_abs w32 x (omega (arith, h)))
