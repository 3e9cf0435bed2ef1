-- From what is accepted for the program that a text spells to what is accepted for the text, and back.
use Rattle.std.proofs.Common.{◌≡◌, ◌∙◌, ℕ, List, inl, inr, subst, sym}
use Rattle.rg_words.specs.declared.refusal.Refusal.{Refusal}
use Rattle.rg_tree.specs.Statements.{ProgramTree}
use Rattle.rg_tree.specs.Lines.{LineTree}
use Rattle.rg_rules.specs.Reading.{FitsProgram, IsDerivationRefusal}
use Rattle.rg_parse.specs.Derivations.{OneSpelledDerivation}
use Rattle.rg_hints.specs.Proved.{AreProved, IsProofsRefusal}
use Rattle.rg_code.specs.Code.{BlockTree, HasRunsOf, program_code}
use Rattle.rg_tree.specs.Programs.{IsSatisfied}
use Rattle.rg_parse.specs.Programs.{SpellsProgram, OneSpelledProgram}
use Rattle.rg_accept.specs.Accepted.{conditions_of, IsAccepted, AreAccepted, IsAcceptedText, IsAcceptTextRefusal, IsBuiltText}
use Rattle.rg_accept.proofs.Accepting.{proved_read, kept_proved, proofs_refused}

-- a text that is accepted spells the program that was read, for which the other two files are accepted
pub accepted_read : OneSpelledProgram → (text derivation proofs : List ℕ) (p : ProgramTree) → SpellsProgram text p → IsAcceptedText text derivation proofs → IsAccepted p derivation proofs
accepted_read one text derivation proofs p spells a =
    subst (λ (t : ProgramTree). IsAccepted t derivation proofs) (one text a.0 p a.1.spells spells) a.1.accepted

-- its derivation fits the program that was read
pub fits_read : OneSpelledProgram → (text derivation proofs : List ℕ) (p : ProgramTree) → SpellsProgram text p → IsAcceptedText text derivation proofs → (lines : List LineTree) × FitsProgram p derivation lines
fits_read one text derivation proofs p spells a =
    let b = accepted_read one text derivation proofs p spells a in
    (b.lines, b.fits)

-- its proofs prove the conditions of the lines that were read, over the program as it was kept
pub text_proved : OneSpelledProgram → OneSpelledDerivation → (text derivation proofs : List ℕ) (p q : ProgramTree) (lines : List LineTree) → SpellsProgram text p → q ≡ p → FitsProgram p derivation lines → IsAcceptedText text derivation proofs → AreProved (conditions_of q lines) proofs
text_proved one_program one_derivation text derivation proofs p q lines spells same fits a =
    proved_read one_derivation derivation proofs p q lines same fits (accepted_read one_program text derivation proofs p spells a)

-- what was read and proved is accepted, for the program as it was kept
pub text_accepted : (text derivation proofs : List ℕ) (p q r : ProgramTree) (lines : List LineTree) → SpellsProgram text p → q ≡ p → FitsProgram p derivation lines → r ≡ q → AreProved (conditions_of q lines) proofs → AreAccepted text derivation proofs r
text_accepted text derivation proofs p q r lines spells same fits kept proved =
    subst
    (λ (t : ProgramTree). AreAccepted text derivation proofs t)
    (sym (kept ∙ same))
    (record {
      spells = spells;
      accepted = record { lines = lines; fits = fits; proved = kept_proved proofs p q lines same proved };
    })

-- a derivation that is refused for the program that was read is the first fault
pub derivation_refused : (text derivation proofs : List ℕ) (p : ProgramTree) (e : Refusal) → SpellsProgram text p → IsDerivationRefusal p derivation e → IsAcceptTextRefusal text derivation proofs e
derivation_refused text derivation proofs p e spells refused = inr (p, spells, inl refused)

-- so are proofs that are refused where text and derivation were read
pub text_proofs_refused : (text derivation proofs : List ℕ) (p q : ProgramTree) (lines : List LineTree) (e : Refusal) → SpellsProgram text p → q ≡ p → FitsProgram p derivation lines → IsProofsRefusal (conditions_of q lines) proofs e → IsAcceptTextRefusal text derivation proofs e
text_proofs_refused text derivation proofs p q lines e spells same fits refused =
    inr (p, spells, proofs_refused derivation proofs p q lines e same fits refused)

-- code with the runs of an accepted program is built from its text
pub text_built : (text derivation proofs : List ℕ) (p q : ProgramTree) (code : List (List BlockTree)) → q ≡ p → AreAccepted text derivation proofs p → IsSatisfied p → code ≡ program_code p.parts → HasRunsOf p code → IsBuiltText text derivation proofs q code
text_built text derivation proofs p q code same a satisfied compiled runs =
    subst
    (λ (t : ProgramTree). IsBuiltText text derivation proofs t code)
    (sym same)
    (record {
      spells = a.spells;
      built = record { accepted = a.accepted; compiled = compiled; runs = runs; satisfied = satisfied };
    })
