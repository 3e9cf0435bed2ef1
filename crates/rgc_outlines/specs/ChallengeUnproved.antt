-- Why it isn't said whether a text is proved.
use Rattle.std.specs.Prelude.{◌≡◌, ◌⊎◌, ℕ, List, Some}
use Rattle.rg_words.specs.declared.refusal.Refusal.{Refusal}
use Rattle.rg_words.specs.declared.refusal.SourceFile.TheVariants.{Derivation}
use Rattle.rg_tree.specs.ConditionTrees.{ConditionTree}
use Rattle.rg_tree.specs.Lines.{LineTree}
use Rattle.rg_tree.specs.Programs.{nth}
use Rattle.rg_tree.specs.Statements.{ProgramTree}
use Rattle.rg_find.specs.Judged.{IsJudgeRefusal}
use Rattle.rg_accept.specs.Accepted.{conditions_of}
use Rattle.rgc_outlines.specs.Cut.{IsOfPieces, IsOfPiecesRefusal}

-- one of the conditions isn't judged, for this reason
pub record IsUnjudged (conditions : List ConditionTree) (steps : ℕ) (e : Refusal) : Type 0 where
  pub number : ℕ
  pub condition : ConditionTree
  pub is : nth conditions number ≡ Some condition
  pub refusal : IsJudgeRefusal condition Derivation number steps e

-- the first fault of the text, or of the pieces of the derivation, or a lack of memory; or else one of their conditions isn't judged
abbrev pub IsUnprovedRefusal : List ℕ → List ℕ → ℕ → Refusal → Type 0
IsUnprovedRefusal text derivation steps e =
    IsOfPiecesRefusal text derivation e
    ⊎ ((program : ProgramTree) × (lines : List LineTree) × IsOfPieces text derivation program lines × IsUnjudged (conditions_of program lines) steps e)
