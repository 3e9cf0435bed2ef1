-- What a single piece is, and what is accepted and built by pieces.
use Rattle.std.proofs.Common.{◌≡◌, ◌∙◌, ℕ, List, [], ◌∷◌, ◌++◌, refl, ap, sym, subst, inl}
use Rattle.std.proofs.lemmas.List.{append-nil}
use Rattle.rg_words.specs.Layout.{Word}
use Rattle.rg_tree.specs.ConditionTrees.{ConditionTree}
use Rattle.rg_tree.specs.Lines.{LineTree}
use Rattle.rg_tree.specs.Statements.{ProgramTree}
use Rattle.rg_tree.specs.Programs.{IsSatisfied}
use Rattle.rg_code.specs.Code.{BlockTree, HasRunsOf, program_code}
use Rattle.rg_parse.specs.Derivations.{SpellsDerivation, OneSpelledDerivation}
use Rattle.rg_parse.specs.Programs.{SpellsProgram, OneSpelledProgram}
use Rattle.rg_hints.specs.Sections.{SectionText}
use Rattle.rg_hints.specs.Proved.{AllProvedFrom, AreProved}
use Rattle.rg_pool.specs.ProofPieces.{GoesOn, AreProvedBy}
use Rattle.rg_accept.specs.Accepted.{conditions_of}
use Rattle.rg_accept.specs.Pieces.{AreSpelledInPieces, FitsInPieces}
use Rattle.rg_accept.proofs.InPieces.{one_in_pieces}
use Rattle.rgc.specs.Pieces.{AreDerived, AreAcceptedInPieces, IsBuiltInPieces, OnePieceFits, OnePieceIsAccepted, OnePieceIsBuilt}

-- one piece spells lines as any file does
alone : (words : List Word) (before : ℕ) (piece : List ℕ) (lines : List LineTree) (last : ℕ) → AreSpelledInPieces words before (piece ∷ []) lines last → SpellsDerivation words piece lines last
alone words before piece lines last s =
    let same : s.0 ≡ lines = sym (s.5 ∙ ap (λ (l : List LineTree). s.0 ++ l) s.4.0 ∙ append-nil s.0) in
    subst (λ (l : List LineTree). SpellsDerivation words piece l last) same (subst (λ (n : ℕ). SpellsDerivation words piece s.0 n) (sym s.4.1) s.3)

-- a file is one piece
as_piece : (words : List Word) (before : ℕ) (piece : List ℕ) (lines : List LineTree) (last : ℕ) → SpellsDerivation words piece lines last → AreSpelledInPieces words before (piece ∷ []) lines last
as_piece words before piece lines last spells = (lines, last, [], spells, (refl, refl), sym (append-nil lines))

pub one_piece : OnePieceFits
one_piece program piece lines = (
  (λ f. record { last = f.last; spelled = alone program.words 1 piece lines f.last f.spelled; derives = f.derives }),
  (λ f. record { last = f.last; spelled = as_piece program.words 1 piece lines f.last f.spelled; derives = f.derives }),
)

-- one file of proofs proves conditions as one piece does
one_proved : (conditions : List ConditionTree) (proofs : List ℕ) → AreProvedBy conditions (proofs ∷ []) → AreProved conditions proofs
one_proved conditions proofs by =
    let (first, rest, has, on, none, joined) = by.files in
    let same : by.sections ≡ first = joined ∙ ap (λ (l : List SectionText). first ++ l) none ∙ append-nil first in
    record {
      size = has.size;
      sections = first;
      heads = has.heads;
      each = subst (λ (l : List SectionText). AllProvedFrom l 1 conditions) same by.each;
    }

-- where no condition was named before, all sections go on
goes_on : (sections : List SectionText) → GoesOn 0 sections
goes_on [] = tt
goes_on (s ∷ sections) = inl refl

proved_as_piece : (conditions : List ConditionTree) (proofs : List ℕ) → AreProved conditions proofs → AreProvedBy conditions (proofs ∷ [])
proved_as_piece conditions proofs are = record {
  sections = are.sections;
  files = (are.sections, [], record { size = are.size; heads = are.heads }, goes_on are.sections, refl, sym (append-nil are.sections));
  each = are.each;
}

pub one_piece_accepted : OnePieceIsAccepted
one_piece_accepted text derivation proofs p = (
  (λ a. record {
    spells = a.derived.spells;
    accepted = record {
      lines = a.lines;
      fits = (one_piece p derivation a.lines).0 a.derived.fits;
      proved = one_proved (conditions_of p a.lines) proofs a.proved;
    };
  }),
  (λ a. record {
    lines = a.accepted.lines;
    derived = record {
      spells = a.spells;
      fits = (one_piece p derivation a.accepted.lines).1 a.accepted.fits;
    };
    proved = proved_as_piece (conditions_of p a.accepted.lines) proofs a.accepted.proved;
  }),
)

pub one_piece_built : OnePieceIsBuilt
one_piece_built text derivation proofs p code built =
    let accepted = (one_piece_accepted text derivation proofs p).0 built.accepted in
    record {
      spells = accepted.spells;
      built = record {
        accepted = accepted.accepted;
        compiled = built.compiled;
        runs = built.runs;
        satisfied = built.satisfied;
      };
    }

-- what was derived for the program that was read, for the program as it was kept
pub derived_kept : (text : List ℕ) (derivation : List (List ℕ)) (p q : ProgramTree) (lines : List LineTree) → SpellsProgram text p → q ≡ p → FitsInPieces p derivation lines → AreDerived text derivation q lines
derived_kept text derivation p q lines spells same fits =
    subst (λ (t : ProgramTree). AreDerived text derivation t lines) (sym same) (record { spells = spells; fits = fits })

-- what is derived of a text fits the program that was read
pub derived_read : OneSpelledProgram → (text : List ℕ) (derivation : List (List ℕ)) (p q : ProgramTree) (lines : List LineTree) → SpellsProgram text q → AreDerived text derivation p lines → FitsInPieces q derivation lines
derived_read one text derivation p q lines spells are =
    subst (λ (t : ProgramTree). FitsInPieces t derivation lines) (one text p q are.spells spells) are.fits

-- what was derived and proved is accepted, for the program as it was kept
pub pieces_kept : (text : List ℕ) (derivation proofs : List (List ℕ)) (p q : ProgramTree) (lines : List LineTree) → AreDerived text derivation p lines → q ≡ p → AreProvedBy (conditions_of p lines) proofs → AreAcceptedInPieces text derivation proofs q
pieces_kept text derivation proofs p q lines derived same proved =
    subst (λ (t : ProgramTree). AreAcceptedInPieces text derivation proofs t) (sym same) (record { lines = lines; derived = derived; proved = proved })

-- what is accepted proves the conditions of what was derived
pub pieces_proved : OneSpelledProgram → OneSpelledDerivation → (text : List ℕ) (derivation proofs : List (List ℕ)) (p q : ProgramTree) (lines : List LineTree) → AreDerived text derivation q lines → AreAcceptedInPieces text derivation proofs p → AreProvedBy (conditions_of q lines) proofs
pieces_proved one_text one_piece_text text derivation proofs p q lines derived are =
    let same = one_text text p q are.derived.spells derived.spells in
    let fits = derived_read one_text text derivation p q are.lines derived.spells are.derived in
    let read = (one_in_pieces one_piece_text q.words 1 derivation are.lines lines fits.last derived.fits.last fits.spelled derived.fits.spelled).0 in
    subst (λ (ls : List LineTree). AreProvedBy (conditions_of q ls) proofs) read (subst (λ (t : ProgramTree). AreProvedBy (conditions_of t are.lines) proofs) same are.proved)

-- what was accepted and emitted is built, for the program as it was kept
pub pieces_built : (text : List ℕ) (derivation proofs : List (List ℕ)) (p q : ProgramTree) (code : List (List BlockTree)) → q ≡ p → AreAcceptedInPieces text derivation proofs p → IsSatisfied p → code ≡ program_code p.parts → HasRunsOf p code → IsBuiltInPieces text derivation proofs q code
pieces_built text derivation proofs p q code same accepted satisfied compiled runs =
    subst (λ (t : ProgramTree). IsBuiltInPieces text derivation proofs t code) (sym same) (record { accepted = accepted; compiled = compiled; runs = runs; satisfied = satisfied })
