-- What is said of the text of a changed program.
use Rattle.std.specs.Prelude.{ℕ, List}
use Rattle.rg_tree.specs.Statements.{ProgramTree}
use Rattle.rg_tree.specs.Programs.{IsSatisfied}
use Rattle.rgc.specs.Pieces.{AreAcceptedInPieces}
use Rattle.rg_outline_reports.specs.Cut.{ArePiecesOf}
use Rattle.rgc_outlines.specs.WalkedRefuted.{IsRefuted}
use Rattle.rgc_outlines.specs.declared.answers.Answer.{Answer}
use Rattle.rgc_outlines.specs.declared.answers.Answer.TheVariants.{Survives, Breaks, Undecided}
use Rattle.rgc_outlines.specs.declared.answers.Answered.{Answered}

-- the text, the pieces of some derivation, and some proofs are accepted for a program, which therefore satisfies its specification
pub record IsProvedText (text : List ℕ) : Type 0 where
  pub derivation : List ℕ
  pub pieces : List (List ℕ)
  pub proofs : List (List ℕ)
  pub program : ProgramTree
  pub cut : ArePiecesOf derivation pieces
  pub accepted : AreAcceptedInPieces text pieces proofs program
  pub satisfied : IsSatisfied program

-- what is said of a text is so; that it is undecided says nothing
abbrev pub IsSaid : List ℕ → Answer → Type 0
IsSaid text Survives = IsProvedText text
IsSaid text Breaks = IsRefuted text
IsSaid text Undecided = Unit {0}

-- what is said of the text of a changed program is so
abbrev pub IsAnswered : Answered → Type 0
IsAnswered a = IsSaid a.text.items a.answer
