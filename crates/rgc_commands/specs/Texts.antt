-- The texts of answers.
use Rattle.std.specs.Prelude.{◌≡◌, ℕ, List, [], ◌++◌, map, codes, string_bytes, Result, Ok, Err, String}
use Rattle.std.specs.Global.{Global}
use Rattle.std.specs.declared.vec.Vec.{Vec}
use Rattle.rg_tree.specs.Conditions.{condition_tree}
use Rattle.rg_smt.specs.Scripts.{script_text}
use Rattle.rg_accept.specs.Stages.{parsed_program, derived_program, derived_lines}
use Rattle.rgc_answers.specs.Accepted.{accepted_text}
use Rattle.rgc_answers.specs.Blocks.{formulas_text}
use Rattle.rgc_answers.specs.Conditions.{conditions_text}
use Rattle.rgc_answers.specs.Found.{found_text}
use Rattle.rgc_answers.specs.Numbers.{numbers_text}
use Rattle.rgc_answers.specs.Proofs.{proofs_text, unproved_text}
use Rattle.rgc_line.specs.declared.command.Format.{Format}
use Rattle.rgc_outlines.specs.Verdict.{verdict_text}
use Rattle.rgc_commands.specs.Explanation.{explanation_text}
use Rattle.rgc_commands.specs.declared.answers.Answer.{Answer}
use Rattle.rgc_commands.specs.declared.answers.Answer.TheVariants.{Numbered, Accepted, Conditions, Formulas, Proved, Unproved, Holds, Clauses, Script, Found, Explained, Code, Run, Verified as verified, Walked, Expanded}
use Rattle.rgc_commands.specs.declared.answers.Verified.{Verified}

-- a verdict, and what is printed after it
abbrev pub verified_text : Verified → List ℕ
verified_text v = verdict_text v.form v.conditions v.found ++ v.more.items

-- the text of an answer in a format; nothing of clauses and of a run, which go out as they are made
abbrev pub answer_text : Format → Answer → List ℕ
answer_text format (Numbered parsed) = numbers_text format (parsed_program parsed).parts
answer_text format Accepted = accepted_text format
answer_text format (Conditions derived) = conditions_text format (derived_program derived) (derived_lines derived)
answer_text format (Formulas derived) = formulas_text (derived_program derived) (derived_lines derived)
answer_text format (Proved range pieces) = proofs_text format range (map string_bytes pieces.items)
answer_text format (Unproved derived unproved) = unproved_text format (derived_program derived) (derived_lines derived) unproved.items
answer_text format Holds = codes "holds\n"
answer_text format (Clauses clauses) = []
answer_text format (Script condition) = script_text (condition_tree condition)
answer_text format (Found condition judged) = found_text (condition_tree condition).words judged
answer_text format (Explained number entry) = explanation_text number entry
answer_text format (Code code) = string_bytes code
answer_text format (Run ready) = []
answer_text format (verified v) = verified_text v
answer_text format (Walked is_broken text) = text.items
answer_text format (Expanded text) = text.items
