-- What was found of proofs is an answer.
use Rattle.std.proofs.Common.{◌≡◌, ℕ, List, Option, Some, None}
use Rattle.std.specs.Prelude.{length}
use Rattle.std.specs.Borrow.{Bor}
use Rattle.rg_accept.specs.Accepted.{conditions_of}
use Rattle.rg_accept.specs.Stages.{derived_program, derived_lines}
use Rattle.rg_accept.specs.declared.stages.Derived.{Derived}
use Rattle.rgc.specs.Pieces.{bytes_of, AreDerived}
use Rattle.rgc.specs.Proofs.{AreFoundFor, ArePartFoundFor}
use Rattle.rgc.specs.declared.proofs_found.ProofsFound.{ProofsFound}
use Rattle.rgc.specs.declared.proofs_found.ProofsFound.TheVariants.{Proofs, Failures}
use Rattle.rgc_answers.specs.declared.proof_lines.Range.TheVariants.{All, Part}
use Rattle.rgc_line.specs.declared.command.Command.TheVariants.{Prove}
use Rattle.rgc_line.specs.declared.command.Settings.{Settings}
use Rattle.rgc_commands.specs.Answers.{IsAnswer, SpellsRange}
use Rattle.rgc_commands.specs.Of.{Pieces}
use Rattle.rgc_commands.specs.declared.answers.Answer.{Answer}
use Rattle.rgc_commands.specs.declared.files.Files.{Files}
use Rattle.rgc_commands.specs.Inner.Answers.{FindsProofs}

pub all_answer : (s : Settings) (t d : Bor (List ℕ)) (steps : ℕ) (files : Files) (text : Bor (List ℕ)) (derivation : Pieces) (derived : Derived) (count : ℕ) (found : ProofsFound) (answer : Answer)
    → files.text ≡ Some text → files.derivation ≡ Some derivation → AreDerived text.now (bytes_of derivation.now) (derived_program derived) (derived_lines derived)
    → count ≡ length (conditions_of (derived_program derived) (derived_lines derived)) → AreFoundFor (derived_program derived) (derived_lines derived) found → FindsProofs derived (All count) found answer
    → IsAnswer s (Prove t d steps None) files answer
all_answer s t d steps files text derivation derived count (Proofs pieces) answer a b is counted found h =
    rw (h, a, b) (record { program = _; lines = _; derived = is; range_is = counted; proved = found })
all_answer s t d steps files text derivation derived count (Failures unproved) answer a b is counted found h =
    rw (h, a, b) (record { derived_is = is; range = All count; range_is = counted; are = rw counted found })

pub part_answer : (s : Settings) (t d : Bor (List ℕ)) (steps : ℕ) (word : Bor (List ℕ)) (files : Files) (text : Bor (List ℕ)) (derivation : Pieces) (derived : Derived) (first last : ℕ) (found : ProofsFound) (answer : Answer)
    → files.text ≡ Some text → files.derivation ≡ Some derivation → AreDerived text.now (bytes_of derivation.now) (derived_program derived) (derived_lines derived)
    → SpellsRange word.now first last → ArePartFoundFor (derived_program derived) (derived_lines derived) first last found → FindsProofs derived (Part first last) found answer
    → IsAnswer s (Prove t d steps (Some word)) files answer
part_answer s t d steps word files text derivation derived first last (Proofs pieces) answer a b is spells found h =
    rw (h, a, b) (record { program = _; lines = _; derived = is; range_is = (spells, found.0); proved = found.1 })
part_answer s t d steps word files text derivation derived first last (Failures unproved) answer a b is spells found h =
    rw (h, a, b) (record { derived_is = is; range = Part first last; range_is = (spells, found.0); are = found.1 })
