-- A derivation in pieces, each of whole lines and no longer than a file may be: one after another, their lines derive the parts of a program.
use Rattle.std.specs.Prelude.{◌≡◌, ◌⊎◌, ℕ, List, [], ◌∷◌, ◌++◌}
use Rattle.rg_words.specs.Layout.{Word}
use Rattle.rg_words.specs.declared.refusal.Refusal.{Refusal}
use Rattle.rg_words.specs.Refusals.{no_memory}
use Rattle.rg_tree.specs.Lines.{LineTree}
use Rattle.rg_tree.specs.Statements.{ProgramTree}
use Rattle.rg_parse.specs.Derivations.{SpellsDerivation, IsDerivationTextRefusal}
use Rattle.rg_rules.specs.Faults.{Derives, IsFirstFault}

-- the first piece spells the first of these lines, the other pieces spell the rest; the number after the lines is the line of the last piece's last
-- token, and the one before the pieces what it is where there is no piece
abbrev pub AreSpelledInPieces : List Word → ℕ → List (List ℕ) → List LineTree → ℕ → Type 0
AreSpelledInPieces words before [] lines last = (lines ≡ []) × (last ≡ before)
AreSpelledInPieces words before (piece ∷ pieces) lines last =
    (first : List LineTree) × (end : ℕ) × (rest : List LineTree) × SpellsDerivation words piece first end × AreSpelledInPieces words end pieces rest last × (lines ≡ first ++ rest)

-- the pieces spell these lines over the program's words, and they derive its parts
pub record FitsInPieces (program : ProgramTree) (pieces : List (List ℕ)) (lines : List LineTree) : Type 0 where
  pub last : ℕ
  pub spelled : AreSpelledInPieces program.words 1 pieces lines last
  pub derives : Derives program.parts lines

-- the first piece that spells no lines is refused as it is alone: by its bytes, its shape or its meaning
abbrev pub IsPieceRefusal : List Word → List (List ℕ) → Refusal → Type 0
IsPieceRefusal words [] e = ⊥
IsPieceRefusal words (piece ∷ pieces) e =
    IsDerivationTextRefusal words piece e ⊎ ((first : List LineTree) × (end : ℕ) × SpellsDerivation words piece first end × IsPieceRefusal words pieces e)

-- the pieces spell lines over the program's words, and their first fault is refused; a line is reported by where it begins in its own piece
pub record IsLinesRefusalInPieces (program : ProgramTree) (pieces : List (List ℕ)) (e : Refusal) : Type 0 where
  pub lines : List LineTree
  pub last : ℕ
  pub spelled : AreSpelledInPieces program.words 1 pieces lines last
  pub fault : IsFirstFault program.parts lines last e

-- why pieces are refused as a derivation of a program: for want of memory; or a piece as a text; or the first fault of the lines that they spell
abbrev pub IsPiecesRefusal : ProgramTree → List (List ℕ) → Refusal → Type 0
IsPiecesRefusal program pieces e = (e ≡ no_memory) ⊎ IsPieceRefusal program.words pieces e ⊎ IsLinesRefusalInPieces program pieces e
