-- From what is accepted to that no file is at fault, and from the fault of the proofs to that of both files.
use Rattle.std.proofs.Common.{◌≡◌, ℕ, List, inr, subst, sym}
use Rattle.rg_words.specs.declared.refusal.Refusal.{Refusal}
use Rattle.rg_tree.specs.Statements.{ProgramTree}
use Rattle.rg_tree.specs.Lines.{LineTree}
use Rattle.rg_rules.specs.Reading.{FitsProgram}
use Rattle.rg_parse.specs.Derivations.{OneSpelledDerivation}
use Rattle.rg_hints.specs.Proved.{AreProved, IsProofsRefusal}
use Rattle.rg_accept.specs.Accepted.{conditions_of, IsAccepted, IsAcceptRefusal}

-- the proofs of an accepted program prove the conditions of the lines that were read, over the program as it was kept
pub proved_read : OneSpelledDerivation → (derivation proofs : List ℕ) (p q : ProgramTree) (lines : List LineTree) → q ≡ p → FitsProgram p derivation lines → IsAccepted p derivation proofs → AreProved (conditions_of q lines) proofs
proved_read one derivation proofs p q lines same fits a =
    let same_lines = (one p.words derivation a.lines lines a.fits.last fits.last a.fits.spelled fits.spelled).0 in
    subst (λ (t : ProgramTree). AreProved (conditions_of t lines) proofs) (sym same) (subst (λ (ls : List LineTree). AreProved (conditions_of p ls) proofs) same_lines a.proved)

-- proofs that prove the conditions of what was kept prove those of the program
pub kept_proved : (proofs : List ℕ) (p q : ProgramTree) (lines : List LineTree) → q ≡ p → AreProved (conditions_of q lines) proofs → AreProved (conditions_of p lines) proofs
kept_proved proofs p q lines same proved = subst (λ (t : ProgramTree). AreProved (conditions_of t lines) proofs) same proved

-- proofs that are refused are the first fault where the derivation was read
pub proofs_refused : (derivation proofs : List ℕ) (p q : ProgramTree) (lines : List LineTree) (e : Refusal) → q ≡ p → FitsProgram p derivation lines → IsProofsRefusal (conditions_of q lines) proofs e → IsAcceptRefusal p derivation proofs e
proofs_refused derivation proofs p q lines e same fits refused =
    inr (lines, fits, subst (λ (t : ProgramTree). IsProofsRefusal (conditions_of t lines) proofs e) same refused)
