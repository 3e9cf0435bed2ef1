-- What was found of proofs, as an answer.
use Rattle.std.specs.Prelude.{◌≡◌}
use Rattle.rg_accept.specs.declared.stages.Derived.{Derived}
use Rattle.rgc.specs.declared.proofs_found.ProofsFound.{ProofsFound}
use Rattle.rgc.specs.declared.proofs_found.ProofsFound.TheVariants.{Proofs, Failures}
use Rattle.rgc_answers.specs.declared.proof_lines.Range.{Range}
use Rattle.rgc_commands.specs.declared.answers.Answer.{Answer}
use Rattle.rgc_commands.specs.declared.answers.Answer.TheVariants.{Proved, Unproved}

-- the answer holds what was found for the conditions of what is derived, or for a range of them
abbrev pub FindsProofs : Derived → Range → ProofsFound → Answer → Type 0
FindsProofs derived range (Proofs pieces) answer = answer ≡ Proved range pieces
FindsProofs derived range (Failures unproved) answer = answer ≡ Unproved derived unproved
