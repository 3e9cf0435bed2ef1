-- The same tokens say one thing.
use Rattle.std.specs.Prelude.{◌≡◌, []}
use Rattle.rg_syntax.specs.Grammar.{FormulaSpelling, formula, ShowSpelling, show, SettingsSpelling, settings, MovesSpelling, moves, ProgramSpelling, program, DerivationSpelling, derivation}
use Rattle.rg_syntax.specs.Texts.{claim_of, shown_claim, settings_of, moves_of, program_of, derivation_of}

-- two ways to write a formula that have the same tokens say the same
abbrev pub OneFormula : Type 0
OneFormula = (f g : FormulaSpelling) → formula f [] ≡ formula g [] → claim_of f ≡ claim_of g

-- two ways to write a text to show that have the same tokens say the same
abbrev pub OneShow : Type 0
OneShow = (s t : ShowSpelling) → show s [] ≡ show t [] → shown_claim s ≡ shown_claim t

-- two ways to set words that have the same tokens say the same
abbrev pub OneStart : Type 0
OneStart = (s t : SettingsSpelling) → settings s [] ≡ settings t [] → settings_of s ≡ settings_of t

-- two ways to write moves that have the same tokens say the same
abbrev pub OneMoves : Type 0
OneMoves = (s t : MovesSpelling) → moves s [] ≡ moves t [] → moves_of s ≡ moves_of t

-- two ways to write a derivation that have the same tokens say the same
abbrev pub OneDerivation : Type 0
OneDerivation = (d e : DerivationSpelling) → derivation d [] ≡ derivation e [] → derivation_of d ≡ derivation_of e

-- two ways to write a program that have the same tokens say the same
abbrev pub OneProgram : Type 0
OneProgram = (p q : ProgramSpelling) → program p [] ≡ program q [] → program_of p ≡ program_of q
