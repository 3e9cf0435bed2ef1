use Rattle.std.proofs.Common.{◌≡◌, ℕ, ◌<◌, false, List, [], ◌∷◌, length, take, get_or, Some, None, sym, arith}
use Rattle.rg_text.specs.declared.kind.Kind.TheVariants.{Fixed}
use Rattle.rg_text.specs.declared.kind.Terminal.{Terminal}
use Rattle.std.specs.Char.{is_ascii_digit}
use Rattle.rg_words.specs.Names.{is_word_start}
use Rattle.rg_text.specs.Spelling.{symbol_of}
use Rattle.rg_text.specs.Tokenization.{IsLongest, BeginsNoToken}
use Rattle.rg_text.proofs.Symbols.{longest_long, longest_short, no_symbol}
use Rattle.rg_text.proofs.scan.symbol_at.Goals as goal

long : (bytes : List ℕ) (t : Terminal) → is_word_start (get_or bytes 0 0) ≡ false → is_ascii_digit (get_or bytes 0 0) ≡ false → 1 < length bytes → symbol_of (take 2 bytes) ≡ Some t → IsLongest bytes 2 (Fixed t)
long [] t l d room h = absurd (omega arith)
long (a ∷ bs) t l d room h = longest_long a l d bs t room h

short : (bytes : List ℕ) (t : Terminal) → 0 < length bytes → is_word_start (get_or bytes 0 0) ≡ false → is_ascii_digit (get_or bytes 0 0) ≡ false → (1 < length bytes → symbol_of (take 2 bytes) ≡ None) → symbol_of (get_or bytes 0 0 ∷ []) ≡ Some t → IsLongest bytes 1 (Fixed t)
short [] t some l d none h = absurd (omega arith)
short (a ∷ bs) t some l d none h = longest_short a l d bs t none h

neither : (bytes : List ℕ) → 0 < length bytes → is_word_start (get_or bytes 0 0) ≡ false → is_ascii_digit (get_or bytes 0 0) ≡ false → (1 < length bytes → symbol_of (take 2 bytes) ≡ None) → symbol_of (get_or bytes 0 0 ∷ []) ≡ None → BeginsNoToken bytes
neither [] some l d none h = absurd (omega arith)
neither (a ∷ bs) some l d none h = no_symbol a l d bs none h

pub returns-in-Some : goal.returns-in-Some
returns-in-Some c =
    long c.args.bytes.now _ c.requires.no_word c.requires.no_number c.in-Some.ensures.0 c.in-Some.ensures.1

pub returns-in-Some-short_symbol : goal.returns-in-Some-short_symbol
returns-in-Some-short_symbol c =
    short c.args.bytes.now _ c.requires.some c.requires.no_word c.requires.no_number c.in_default.ensures (sym c.in-Some-short_symbol.ensures)

pub returns-in-None : goal.returns-in-None
returns-in-None c =
    neither c.args.bytes.now c.requires.some c.requires.no_word c.requires.no_number c.in_default.ensures (sym c.in-None.ensures)
