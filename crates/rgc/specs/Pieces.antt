-- A derivation and clause proofs for the program of a text, each in pieces that are files: what is accepted and built by them, and what a single piece is.
use Rattle.std.specs.Prelude.{◌≡◌, ◌⊎◌, ◌↔◌, ℕ, List, [], ◌∷◌, map}
use Rattle.std.specs.Borrow.{Bor}
use Rattle.rg_words.specs.declared.refusal.Refusal.{Refusal}
use Rattle.rg_tree.specs.Lines.{LineTree}
use Rattle.rg_tree.specs.Statements.{ProgramTree}
use Rattle.rg_tree.specs.Programs.{IsSatisfied}
use Rattle.rg_code.specs.Code.{BlockTree, HasRunsOf, program_code}
use Rattle.rg_parse.specs.Programs.{SpellsProgram, IsProgramRefusal}
use Rattle.rg_pool.specs.ProofPieces.{AreProvedBy, AreProofsRefused}
use Rattle.rg_rules.specs.Reading.{FitsProgram}
use Rattle.rg_accept.specs.Accepted.{conditions_of, AreAccepted, IsBuiltText}
use Rattle.rg_accept.specs.Pieces.{FitsInPieces, IsPiecesRefusal}

-- the bytes of files, in their order
abbrev pub bytes_of : List (Bor (List ℕ)) → List (List ℕ)
bytes_of files = map (λ file. file.now) files

-- the text spells a program, and the pieces spell lines that derive its parts
pub record AreDerived (text : List ℕ) (derivation : List (List ℕ)) (program : ProgramTree) (lines : List LineTree) : Type 0 where
  pub spells : SpellsProgram text program
  pub fits : FitsInPieces program derivation lines

-- the first fault over all of them: of the text, then of the pieces of a derivation of its program
abbrev pub IsDeriveRefusal : List ℕ → List (List ℕ) → Refusal → Type 0
IsDeriveRefusal text derivation e =
    IsProgramRefusal text e ⊎ ((program : ProgramTree) × SpellsProgram text program × IsPiecesRefusal program derivation e)

-- a text, the pieces of a derivation, and those of clause proofs are accepted by the written rules: the text spells this program, the pieces spell lines
-- that derive its parts, and the proofs together prove every condition
pub record AreAcceptedInPieces (text : List ℕ) (derivation proofs : List (List ℕ)) (p : ProgramTree) : Type 0 where
  pub lines : List LineTree
  pub derived : AreDerived text derivation p lines
  pub proved : AreProvedBy (conditions_of p lines) proofs

-- the first fault over all files: of the text, then of the derivation, then of the proofs
abbrev pub IsAcceptInPiecesRefusal : List ℕ → List (List ℕ) → List (List ℕ) → Refusal → Type 0
IsAcceptInPiecesRefusal text derivation proofs e =
    IsDeriveRefusal text derivation e
    ⊎ ((program : ProgramTree) × (lines : List LineTree) × AreDerived text derivation program lines × AreProofsRefused (conditions_of program lines) proofs e)

-- the text and the pieces are accepted for this program; the code is exactly that of the program and has exactly its runs, and it satisfies its
-- specification
pub record IsBuiltInPieces (text : List ℕ) (derivation proofs : List (List ℕ)) (p : ProgramTree) (code : List (List BlockTree)) : Type 0 where
  pub accepted : AreAcceptedInPieces text derivation proofs p
  pub compiled : code ≡ program_code p.parts
  pub runs : HasRunsOf p code
  pub satisfied : IsSatisfied p

-- one piece is a derivation as any file is: it is taken for the same lines
abbrev pub OnePieceFits : Type 0
OnePieceFits = (program : ProgramTree) (piece : List ℕ) (lines : List LineTree) → FitsInPieces program (piece ∷ []) lines ↔ FitsProgram program piece lines

-- with one piece of each all three are accepted exactly where the three files are
abbrev pub OnePieceIsAccepted : Type 0
OnePieceIsAccepted = (text derivation proofs : List ℕ) (p : ProgramTree) → AreAcceptedInPieces text (derivation ∷ []) (proofs ∷ []) p ↔ AreAccepted text derivation proofs p

-- and what is built by them is what is built by the three files
abbrev pub OnePieceIsBuilt : Type 0
OnePieceIsBuilt =
    (text derivation proofs : List ℕ) (p : ProgramTree) (code : List (List BlockTree)) → IsBuiltInPieces text (derivation ∷ []) (proofs ∷ []) p code → IsBuiltText text derivation proofs p code
