-- The derivation of an outline, whole or in pieces, and what is accepted and built by it.
use Rattle.std.specs.Prelude.{◌≡◌, ◌⊎◌, ℕ, ◌≤◌, List, [], ◌∷◌, length}
use Rattle.rg_words.specs.declared.limits.TheConstants.{MOST_TEXT_BYTES}
use Rattle.rg_words.specs.declared.refusal.Refusal.{Refusal}
use Rattle.rg_words.specs.Refusals.{no_memory}
use Rattle.rg_tree.specs.Lines.{LineTree}
use Rattle.rg_tree.specs.Statements.{ProgramTree}
use Rattle.rg_tree.specs.Programs.{IsSatisfied}
use Rattle.rg_code.specs.Code.{BlockTree, HasRunsOf, program_code}
use Rattle.rg_outline_reports.specs.Cut.{ArePiecesOf}
use Rattle.rg_accept.specs.Accepted.{AreAccepted, IsBuiltText}
use Rattle.rgc.specs.Pieces.{AreAcceptedInPieces, IsBuiltInPieces, AreDerived, IsDeriveRefusal}

-- the text spells this program, and the pieces of the derivation spell these lines, which derive its parts
pub record IsOfPieces (text derivation : List ℕ) (program : ProgramTree) (lines : List LineTree) : Type 0 where
  pub pieces : List (List ℕ)
  pub cut : ArePiecesOf derivation pieces
  pub derived : AreDerived text pieces program lines

-- why nothing is derived: for want of memory; or the first fault of the text, or of the pieces of the derivation
abbrev pub IsOfPiecesRefusal : List ℕ → List ℕ → Refusal → Type 0
IsOfPiecesRefusal text derivation e =
    (e ≡ no_memory) ⊎ ((pieces : List (List ℕ)) × ArePiecesOf derivation pieces × IsDeriveRefusal text pieces e)

-- where a derivation is no longer than a file may be, whatever is accepted with its pieces and one file of proofs is accepted with it
abbrev pub ShortDerivationsAreAccepted : Type 0
ShortDerivationsAreAccepted =
    (text derivation proofs : List ℕ) (pieces : List (List ℕ)) (p : ProgramTree) → ArePiecesOf derivation pieces → length derivation ≤ MOST_TEXT_BYTES → AreAcceptedInPieces text pieces (proofs ∷ []) p → AreAccepted text derivation proofs p

-- and the code that is built with its pieces is the code that is built with it
abbrev pub ShortDerivationsAreBuilt : Type 0
ShortDerivationsAreBuilt =
    (text derivation proofs : List ℕ) (pieces : List (List ℕ)) (p : ProgramTree) (code : List (List BlockTree)) → ArePiecesOf derivation pieces → length derivation ≤ MOST_TEXT_BYTES → IsBuiltInPieces text pieces (proofs ∷ []) p code → IsBuiltText text derivation proofs p code
