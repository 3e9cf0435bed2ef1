-- Which bytes spell the lines of a derivation, which of them fit a program, and why others are refused.
use Rattle.std.specs.Prelude.{ℕ, ◌⊎◌, List}
use Rattle.rg_words.specs.declared.refusal.Refusal.{Refusal}
use Rattle.rg_tree.specs.Statements.{ProgramTree}
use Rattle.rg_tree.specs.Lines.{LineTree}
use Rattle.rg_parse.specs.Derivations.{SpellsDerivation, IsDerivationTextRefusal}
use Rattle.rg_rules.specs.Faults.{Derives, IsFirstFault}

-- the bytes spell these lines over the program's words, and they derive its parts
pub record FitsProgram (program : ProgramTree) (source : List ℕ) (lines : List LineTree) : Type 0 where
  pub last : ℕ
  pub spelled : SpellsDerivation program.words source lines last
  pub derives : Derives program.parts lines

-- the bytes spell lines over the program's words, and their first fault is refused
pub record IsLinesRefusal (program : ProgramTree) (source : List ℕ) (e : Refusal) : Type 0 where
  pub lines : List LineTree
  pub last : ℕ
  pub spelled : SpellsDerivation program.words source lines last
  pub fault : IsFirstFault program.parts lines last e

-- why bytes are refused as a derivation of a program: as a text, by their bytes, their shape or their meaning; or the first
-- fault of the lines that they spell
abbrev pub IsDerivationRefusal : ProgramTree → List ℕ → Refusal → Type 0
IsDerivationRefusal program source e =
    IsDerivationTextRefusal program.words source e ⊎ IsLinesRefusal program source e
