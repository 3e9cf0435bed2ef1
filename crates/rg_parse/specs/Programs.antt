-- Which bytes spell a program, and why others are refused.
use Rattle.std.specs.Prelude.{◌≡◌, ℕ, List}
use Rattle.rg_words.specs.declared.refusal.Refusal.{Refusal}
use Rattle.rg_words.specs.declared.refusal.SourceFile.TheVariants.{Text}
use Rattle.rg_tree.specs.Statements.{ProgramTree}
use Rattle.rg_syntax.specs.declared.text_kind.TextKind.TheVariants as texts
use Rattle.rg_resolve.specs.Programs.{program_faults}
use Rattle.rg_resolve.specs.ProgramTyping.{ProgramStandsFor}
use Rattle.rg_parse.specs.Spelled.{Spells, IsTextRefusal}

-- the bytes spell this program
abbrev pub SpellsProgram : List ℕ → ProgramTree → Type 0
SpellsProgram source t = Spells texts.Program ProgramStandsFor source t

-- why bytes are refused as a program: by their bytes, their shape, their statements or their meaning
abbrev pub IsProgramRefusal : List ℕ → Refusal → Type 0
IsProgramRefusal source e = IsTextRefusal texts.Program program_faults Text source e

-- the same bytes spell one program
abbrev pub OneSpelledProgram : Type 0
OneSpelledProgram = (source : List ℕ) (t u : ProgramTree) → SpellsProgram source t → SpellsProgram source u → t ≡ u
